-- `local_guard::guard_total` meets its contract: another key passes, and so does one that is not held. Assumes nothing.
use Prim.Native.Nat.{ℕ, ◌≤◌, ◌<◌}
use mathlib.Core.Bool.{true, not, ◌&&◌}
use mathlib.Core.List.{List, []}
use mathlib.Core.Path.{◌≡◌, ◌∙◌, ap, sym, subst}
use native.Mathlib.Omega.{arith}
use lib.Dec.{ltb}
use lib.ListN.{get_or, length}
use Rattle.fields.proofs.Choice.{in-at}
use Rattle.rules.specs.Layout.{decode_rec}
use Rattle.rules.specs.Node.{Rec, hidden}
use Rattle.rules.specs.Sizes.{max_key, max_value}
use Rattle.rules.specs.declared.Profile.TheVariants.{Meter}
use Rattle.rules.specs.Profile.{in_form, numeral, recs_formed}
use Rattle.table.specs.Tests.{count_of, key_length, recs_in, value_length}
use Rattle.table.proofs.Laid.{laid-key, laid-value, rec-long}
use Rattle.table.proofs.Places.{length-recs, rec_at, recs-at}
use Rattle.table_read.specs.Find.{find_key}
use Rattle.table_read.specs.declared.Place.TheVariants.{At}
use Rattle.table_read.proofs.Searched.{rec-found, rec-in, rec-missing}
use Rattle.local_guard.specs.Guarding.{bringing}
use Rattle.local_guard.proofs.Guarding.{by_total, no_record, other_key, record-formed, that-record}
use Rattle.local_guard.proofs.guard_total.Goals as goal

-- a record of a node in form is in form
formed-at : (b : List ℕ) (j : ℕ) → j < count_of b → recs_formed Meter (recs_in b) ≡ true → in_form Meter (rec_at j b).kv ≡ true
formed-at b j h e =
    subst (λ (r : Rec). in_form Meter r.kv ≡ true) (recs-at j b (decode_rec []) h)
    (record-formed (recs_in b) e (get_or (recs_in b) j (decode_rec [])) (in-at (recs_in b) j (decode_rec []) (rw length-recs h)))

pub record_of-requires : goal.record_of-requires
record_of-requires c =
    let stands : find_key c.args.key.now (recs_in c.args.node.now) ≡ At c.in-At.j = sym c.search_key.ensures ∙ c.in-At.is in
    let h = rec-in c.args.node.now c.args.key.now _ (stands) in
    let few = c.requires.0.few in
    (c.requires.0.long, omega arith)

pub guard_held-requires : goal.guard_held-requires
guard_held-requires c =
    let stands : find_key c.args.key.now (recs_in c.args.node.now) ≡ At c.in-At.j = sym c.search_key.ensures ∙ c.in-At.is in
    let b : List ℕ = c.args.node.now in
    let h = rec-in b c.args.key.now _ (stands) in (
      ap length c.record_of.ensures ∙ rec-long b c.requires.0 _ h,
      subst (λ (x : List ℕ). key_length x ≤ max_key) (sym c.record_of.ensures) (laid-key b c.requires.0 _ h),
      subst (λ (x : List ℕ). value_length x ≤ max_value) (sym c.record_of.ensures) (laid-value b c.requires.0 _ h),
      subst (λ (x : List ℕ). in_form Meter (decode_rec x).kv ≡ true) (sym c.record_of.ensures) (formed-at b _ h c.requires.2),
      c.requires.3,
    )

pub returns-in-At : goal.returns-in-At
returns-in-At c =
    let stands : find_key c.args.key.now (recs_in c.args.node.now) ≡ At c.in-At.j = sym c.search_key.ensures ∙ c.in-At.is in
    let a = c.args in
    let b : List ℕ = a.node.now in
    c.guard_held.ensures
    ∙ ap (λ (x : List ℕ). by_total (not (hidden (decode_rec x).kv.status) && ltb (numeral 0 a.value.now) (numeral 0 (decode_rec x).kv.value))) c.record_of.ensures
    ∙ that-record (bringing a.key.now a.value.now a.status) c.same.ensures c.if-not-same.false _ (rec_at _ b) (rec-found b a.key.now _ (stands))

pub returns-in-Free : goal.returns-in-Free
returns-in-Free c =
    let a = c.args in
    no_record (bringing a.key.now a.value.now a.status) _ (rec-missing a.node.now a.key.now _ c.requires.1 (sym c.search_key.ensures ∙ c.in-Free.is))

pub returns-then-not-same : goal.returns-then-not-same
returns-then-not-same c =
    let a = c.args in
    other_key (bringing a.key.now a.value.now a.status) c.same.ensures c.if-not-same.true _
