-- `local_grant::place_record` meets its contract: the record takes the place where its key was found, or where it belongs. Assumes nothing.
use Prim.Native.Nat.{ℕ, ◌<◌}
use mathlib.Core.Path.{◌≡◌, ap, sym, ◌∙◌}
use mathlib.Core.List.{List}
use native.Mathlib.Omega.{arith}
use lib.ListN.{length}
use borrow.Author.Tests.{leb-false}
use Rattle.rules.specs.Sizes.{max_records}
use Rattle.rules.specs.Node.{Rec}
use Rattle.rules.specs.Layout.{encode_node, decode_node}
use Rattle.table.specs.Changes.{with_recs, rec_of}
use Rattle.table.specs.Tests.{recs_in, count_of}
use Rattle.table.proofs.Places.{length-recs}
use Rattle.table_read.specs.Find.{find_key, to_key}
use Rattle.table_read.specs.declared.Place.{Place}
use Rattle.table_read.specs.declared.Place.TheVariants.{At, Free}
use Rattle.table_read.proofs.Searched.{rec-in}
use Rattle.table_read.proofs.Placed.{store_at, store-free, free_in}
use Rattle.local_grant.specs.Granting.{node_in, full_at}
use Rattle.local_grant.proofs.place_record.Goals as goal

pub put_record-requires : goal.put_record-requires
put_record-requires c =
    let stands : find_key c.args.key.now (recs_in c.args.node.now) ≡ At c.in-At.j = c.requires.1 ∙ c.in-At.is in
    (c.requires.0, rec-in c.args.node.now c.args.key.now c.in-At.j (stands), c.requires.3, c.requires.4)

pub insert_record-requires : goal.insert_record-requires
insert_record-requires c =
    let belongs : find_key c.args.key.now (recs_in c.args.node.now) ≡ Free c.in-Free.j = c.requires.1 ∙ c.in-Free.is in
    let has_room : count_of c.args.node.now < max_records = let b : List ℕ = c.args.node.now in
    omega (arith, length-recs b, leb-false max_records (length (recs_in b)) (ap (λ (p : Place). full_at p (node_in b)) (sym c.in-Free.is) ∙ c.requires.2)) in
    let b : List ℕ = c.args.node.now in (
      c.requires.0,
      omega (arith, length-recs b, free_in (to_key c.args.key.now) (recs_in b) c.in-Free.j (belongs)),
      has_room,
      c.requires.3,
      c.requires.4,
    )

pub returns-in-At : goal.returns-in-At
returns-in-At c =
    let stands : find_key c.args.key.now (recs_in c.args.node.now) ≡ At c.in-At.j = c.requires.1 ∙ c.in-At.is in
    let a = c.args in
    let b : List ℕ = a.node.now in
    let r : Rec = rec_of a.key.now a.value.now a.version a.status a.start in
    c.put_record.ensures ∙ ap (λ (l : List Rec). encode_node (with_recs l (decode_node b))) (sym (store_at r (recs_in b) c.in-At.j (stands)))

pub returns-in-Free : goal.returns-in-Free
returns-in-Free c =
    let belongs : find_key c.args.key.now (recs_in c.args.node.now) ≡ Free c.in-Free.j = c.requires.1 ∙ c.in-Free.is in
    let a = c.args in
    let b : List ℕ = a.node.now in
    let r : Rec = rec_of a.key.now a.value.now a.version a.status a.start in
    c.insert_record.ensures ∙ ap (λ (l : List Rec). encode_node (with_recs l (decode_node b))) (sym (store-free r (recs_in b) c.in-Free.j (belongs)))
