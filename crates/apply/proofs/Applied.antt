-- The whole call: a delta that is refused, one that is accepted, and what is answered. Assumes nothing.
use Prim.Native.Nat.{ℕ, ◌≤◌, ◌<◌}
use mathlib.Core.Path.{◌≡◌, refl, ap, sym, ◌∙◌, ap₂, subst}
use mathlib.Core.Bool.{true, false}
use mathlib.Core.List.{List, [], ◌++◌}
use native.Mathlib.Omega.{arith}
use lib.ListN.{length, drop}
use lib.Dec.{leb}
use borrow.Author.Tests.{le-leb, lt-leb}
use Rattle.fields.specs.Parts.{put}
use Rattle.rules.specs.Delta as rule
use Rattle.rules.specs.Apply.{Stream, apply_node, codes, Ways, ways_in}
use Rattle.rules.specs.Profile.{Kind, kind, read_delta_as}
use Rattle.rules.specs.Layout.{table_width, encode}
use Rattle.rules.specs.Whole.{with_table, area_of, encode_whole, decode_whole, valid_whole}
use Rattle.rules.specs.Given.{Gives}
use Rattle.rules.specs.Lent.{TableAndList, both, lent_apply, lent_apply_as}
use Rattle.leaving.specs.Leaving.{leaving_each, apply_leaving, lent_leaving, lent_leaving_as}
use Rattle.leaving.proofs.Left.{by-ops}
use Rattle.rules.specs.declared.Mode.{Mode}
use Rattle.rules.specs.declared.Profile.{Profile}
use Rattle.rules.specs.declared.Refusal.TheVariants.{NoPlace, BadTable}
use Rattle.std.specs.Prelude.{Err, Ok, Result}
use Rattle.rules.specs.declared.DeltaFault.{DeltaFault}
use Rattle.rules.specs.declared.DeltaRead.{DeltaRead}
use Rattle.rules.proofs.Results.{err-is, ok-is}
use Rattle.std.specs.Result.{is_err}
use Rattle.std.proofs.lemmas.Bool.{false≢true}
use Rattle.rules.proofs.Refusing.{whole-bytes}
use Rattle.table_check.proofs.Entry.{area-back}
use Rattle.profiles.proofs.Reading.{delta-plain}
use Rattle.delta_form.specs.Forming.{delta_read_as}
use Rattle.delta_form.proofs.Formed.{as-good}
use Rattle.delta_read.specs.declared.Heads.{Heads}
use Rattle.delta_read.specs.NodeDeltas.{parts_from, AllHeads}
use Rattle.apply_parts.proofs.Applying as parts
use Rattle.apply_parts.specs.Applying.{parts_leaving, Accepted, HeadsFound}

-- ---- an accepted delta

module _ (s : List ℕ) (a : Accepted s) where
  pub accepted-parts : parts_from s 0 ≡ rule.parts_of a.0
  accepted-parts = parts.accepted-parts s a

module _ (delta : List ℕ) (x : DeltaRead) (e : rule.delta_read delta ≡ Ok x) where
  pub accepted : (a : Accepted delta) × (x.nodes ≡ length (rule.parts_of a.0))
  unfolding rule.delta_read
  accepted = go (rule.read_delta delta) refl e
    where
      go : (o : rule.Ops) → rule.read_delta delta ≡ o → rule.read_answer o ≡ Ok x → (a : Accepted delta) × (x.nodes ≡ length (rule.parts_of a.0))
      go (rule.Good os) q a = ((os, q), ap (λ (y : DeltaRead). y.nodes) (sym (ok-is _ _ a)))
      go (rule.Faulty y b) q a = absurd (false≢true (sym (ap is_err a)))

  pub heads-found : (r : Heads) → AllHeads delta r.at r.count r.max → HeadsFound delta x.nodes r
  heads-found r g =
      record {
        all = accepted.1 ∙ ap length (sym (accepted-parts delta accepted.0));
        few = g.few x.ops x.nodes (sym e);
        long_at = g.long_at;
        long_count = g.long_count;
        long_max = g.long_max;
        heads = g.heads x.ops x.nodes (sym e);
      }

-- ---- in a kind of table

-- what is accepted in a profile is the accepted delta
as-accepted : (p : Profile) (s : List ℕ) (x : DeltaRead) → delta_read_as p s ≡ Ok x → (a : Accepted s) → read_delta_as p s ≡ rule.Good a.0
unfolding delta_read_as
as-accepted p s x e a = go (read_delta_as p s) refl e
  where
    go : (o : rule.Ops) → read_delta_as p s ≡ o → rule.read_answer o ≡ Ok x → o ≡ rule.Good a.0
    go (rule.Good os) q b = sym (delta-plain p s os q).0 ∙ a.1
    go (rule.Faulty y b) q c = absurd (false≢true (sym (ap is_err c)))

-- ---- the call

module _ (own delta : List ℕ) (clock : ℕ) (list l : List ℕ) where
  -- what the call gives
  abbrev Outcome : Result ℕ DeltaFault → List ℕ → List ℕ → Type 0
  Outcome r l' list' = Gives (lent_leaving own delta clock list l) r (both l' list')

  -- where no node is left alone, it is `lent_apply` by definition
  pub none_left : own ≡ [] → (r : Result ℕ DeltaFault) (x : TableAndList) → Gives (lent_leaving own delta clock list l) r x → Gives (lent_apply delta clock list l) r x
  unfolding lent_leaving_as lent_apply_as apply_leaving
  none_left e r x g = subst (λ (o : List ℕ). Gives (lent_leaving o delta clock list l) r x) e g

  pub bad-table : valid_whole l ≡ false → Outcome (Err (record { why = BadTable; at = 0 })) l list
  unfolding lent_leaving_as
  bad-table e = (rw (lent_leaving_as, e), rw (lent_leaving_as, e))

  abbrev k : Kind
  k = (decode_whole l).kind

  abbrev ways : Ways
  ways = ways_in k

  module _ (v : valid_whole l ≡ true) where
    pub at-fault : (fault : DeltaFault) → delta_read_as k.profile delta ≡ Err fault → Outcome (Err fault) l list
    unfolding lent_leaving_as delta_read_as
    at-fault fault e = go (read_delta_as k.profile delta) refl e
      where
        go : (o : rule.Ops) → read_delta_as k.profile delta ≡ o → rule.read_answer o ≡ Err fault → Outcome (Err fault) l list
        go (rule.Good ops) q a = absurd (false≢true (ap is_err a))
        go (rule.Faulty y b) q a =
            let n = by-ops own ways delta clock (decode_whole l).table list in
            (ap (λ (f : DeltaFault). Err f) (sym (err-is _ _ a)) ∙ rw (lent_leaving_as, v, n, q), rw (lent_leaving_as, v, n, q) (ap (λ (t : List ℕ). both t list) (sym (whole-bytes l v))))

    module _ (x : DeltaRead) (e : delta_read_as k.profile delta ≡ Ok x) where
      -- document 01 accepts it too
      pub plainly : rule.delta_read delta ≡ Ok x
      plainly = as-good k.profile delta x.ops x.nodes e

      abbrev a : Accepted delta
      a = (accepted delta x plainly).0

      count : x.nodes ≡ length (rule.parts_of a.0)
      count = (accepted delta x plainly).1

      reads : ways.reads delta ≡ rule.Good a.0
      reads = as-accepted k.profile delta x e a

      pub no-places : length list < x.nodes → Outcome (Err (record { why = NoPlace; at = 0 })) l list
      unfolding lent_leaving_as
      no-places h =
          let q : ways.reads delta ≡ rule.Good a.0 = reads in
          let n : leb (length (rule.parts_of a.0)) (length list) ≡ false = lt-leb (length (rule.parts_of a.0)) (length list) (omega (arith, count)) in
          (rw (lent_leaving_as, v, by-ops own ways delta clock (decode_whole l).table list, q, n), rw (lent_leaving_as, v, by-ops own ways delta clock (decode_whole l).table list, q, n) (ap (λ (t : List ℕ). both t list) (sym (whole-bytes l v))))

      -- the area came back as s
      pub applied-all : x.nodes ≤ length list → (mode : Mode) → mode ≡ k.mode → (profile : Profile) → profile ≡ k.profile → (s list' : List ℕ)
          → both s list' ≡ parts_leaving own (kind mode profile) clock (parts_from delta 0) list (area_of l)
          → Outcome (Ok x.nodes) (s ++ drop table_width l) list'
      unfolding lent_leaving_as
      applied-all h mode m profile f s list' p =
          let q : ways.reads delta ≡ rule.Good a.0 = reads in
          let n : leb (length (rule.parts_of a.0)) (length list) ≡ true = le-leb (length (rule.parts_of a.0)) (length list) (omega (arith, count)) in
          let same : parts_from delta 0 ≡ rule.parts_of a.0 = accepted-parts delta a in
          let after : Stream = leaving_each own (apply_node ways clock) (rule.parts_of a.0) (decode_whole l).table in
          let e : both s list' ≡ both (encode after.table) (put 0 (codes after.answers) list) =
          p
          ∙ ap₂ (λ (x : Mode) (y : Profile). parts_leaving own (kind x y) clock (parts_from delta 0) list (area_of l)) m f
          ∙ ap (λ (xs : List rule.Part). parts_leaving own k clock xs list (area_of l)) same in
          let t : s ++ drop table_width l ≡ encode_whole (with_table after.table (decode_whole l)) =
          area-back l v after.table s (ap (λ (x : TableAndList). x.table) e) in
          (rw (lent_leaving_as, v, by-ops own ways delta clock (decode_whole l).table list, q, n) (ap Ok count), rw (lent_leaving_as, v, by-ops own ways delta clock (decode_whole l).table list, q, n) (ap₂ both t (ap (λ (x : TableAndList). x.list) e)))
