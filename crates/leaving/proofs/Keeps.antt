-- A table that obeys the rules, and those of its profile, still does after the named nodes were left alone. Assumes nothing.
use Prim.Native.Nat.{ℕ, suc, ◌≤◌, ◌<◌}
use mathlib.Core.Path.{◌≡◌, refl, ap, sym, ◌∙◌, subst}
use mathlib.Core.Bool.{Bool, true, false}
use mathlib.Core.List.{List, [], ◌∷◌}
use lib.ListN.{length}
use Rattle.fields.specs.Choice.{pick, all, ◌∈◌, here, later}
use Rattle.fields.specs.Numbers.{AreBytes}
use Rattle.fields.proofs.Choice.{in-none, and_intro, and_left, and_right}
use Rattle.rules.specs.Sizes.{max_nodes, numbers}
use Rattle.rules.specs.Table.{Entry, Table, among, obeys}
use Rattle.rules.specs.Profile.{Kind, profile_obeys, recs_obey}
use Rattle.rules.specs.Apply.{Ways, Lawful, apply, ways_in}
use Rattle.rules.specs.Whole.{Whole, with_table, obeys_whole}
use Rattle.rules.specs.declared.Profile.{Profile}
use Rattle.rules.proofs.Obeys.{Ascending, OkEntry, OkNode, OkTable, table-facts, facts-table}
use Rattle.rules.proofs.Calls.{apply-keeps}
use Rattle.rules.proofs.Memories.{whole-profile, whole-table, same_nodes}
use Rattle.profiles.proofs.Kept.{apply-formed}
use Rattle.profiles.proofs.Lawful.{kind-lawful}
use Rattle.leaving.specs.Leaving.{apply_leaving, kept_entry, kept}
use Rattle.leaving.proofs.Left.{numbers-kept, left-table, numbers-leaving}

-- ---- of two tables that obey

kept-long : (own : List ℕ) (t u : Table) → length (kept own t u) ≡ length u
unfolding kept
kept-long own [] u = refl
kept-long own (e ∷ t) [] = refl
kept-long own (e ∷ t) (f ∷ u) = ap suc (kept-long own t u)

kept-entries : (own : List ℕ) (t u : Table) → ((e : Entry) → e ∈ t → OkEntry e) → ((e : Entry) → e ∈ u → OkEntry e) → (e : Entry) → e ∈ kept own t u → OkEntry e
unfolding kept
kept-entries own [] u h k = k
kept-entries own (a ∷ t) [] h k = λ e m. absurd (in-none m)
kept-entries own (a ∷ t) (f ∷ u) h k = go (kept-entries own t u (λ e m. h e (later m)) (λ e m. k e (later m)))
  where
    one : (b : Bool) → OkNode (pick b a.node f.node)
    one true = (h a (here refl)).node_ok
    one false = (k f (here refl)).node_ok

    go : ((e : Entry) → e ∈ kept own t u → OkEntry e) → (e : Entry) → e ∈ kept_entry own a f ∷ kept own t u → OkEntry e
    go ih e (here q) = subst OkEntry (sym q) (record { number_fits = (k f (here refl)).number_fits; node_ok = one (among f.number own) })
    go ih e (later m) = ih e m

pub kept-ok : (own : List ℕ) (t u : Table) → OkTable t → OkTable u → OkTable (kept own t u)
kept-ok own t u o p =
    record {
      few = subst (λ (n : ℕ). n ≤ max_nodes) (sym (kept-long own t u)) p.few;
      ascending = subst Ascending (sym (numbers-kept own t u)) p.ascending;
      each = kept-entries own t u o.each p.each;
    }

pub kept-formed : (own : List ℕ) (p : Profile) (t u : Table) → profile_obeys p t ≡ true → profile_obeys p u ≡ true → profile_obeys p (kept own t u) ≡ true
unfolding kept profile_obeys all
kept-formed own p [] u h k = k
kept-formed own p (a ∷ t) [] h k = refl
kept-formed own p (a ∷ t) (f ∷ u) h k =
    let form : Entry → Bool = λ (e : Entry). recs_obey p e.node.recs in
    and_intro (form (kept_entry own a f)) (all form (kept own t u))
    (one (among f.number own) (and_left (form a) (all form t) h) (and_left (form f) (all form u) k))
    (kept-formed own p t u (and_right (form a) (all form t) h) (and_right (form f) (all form u) k))
  where
    one : (b : Bool) → recs_obey p a.node.recs ≡ true → recs_obey p f.node.recs ≡ true → recs_obey p (pick b a.node f.node).recs ≡ true
    one true x y = x
    one false x y = y

-- ---- the call

pub leaving-keeps : (own : List ℕ) (ways : Ways) → Lawful ways → (bytes : List ℕ) (now : ℕ) (t : Table) (l : List ℕ) → AreBytes bytes → now < numbers → obeys t ≡ true
    → obeys (apply_leaving own ways bytes now t l).table ≡ true
leaving-keeps own ways law bytes now t l b h e =
    ap obeys (left-table own ways bytes now t l)
    ∙ facts-table (kept own t (apply ways bytes now t l).table) (kept-ok own t (apply ways bytes now t l).table (table-facts t e) (table-facts _ (apply-keeps ways law bytes now t l b h e)))

pub leaving-formed : (own : List ℕ) (k : Kind) (bytes : List ℕ) (now : ℕ) (t : Table) (l : List ℕ) → profile_obeys k.profile t ≡ true → profile_obeys k.profile (apply_leaving own (ways_in k) bytes now t l).table ≡ true
leaving-formed own k bytes now t l h =
    ap (profile_obeys k.profile) (left-table own (ways_in k) bytes now t l) ∙ kept-formed own k.profile t (apply (ways_in k) bytes now t l).table h (apply-formed k bytes now t l h)

-- a whole table of any kind
pub leaving-whole : (own : List ℕ) (w : Whole) → obeys_whole w ≡ true → (bytes : List ℕ) → AreBytes bytes → (now : ℕ) → now < numbers → (l : List ℕ)
    → obeys_whole (with_table (apply_leaving own (ways_in w.kind) bytes now w.table l).table w) ≡ true
leaving-whole own w o bytes are now fits l =
    same_nodes w o (apply_leaving own (ways_in w.kind) bytes now w.table l).table
    (leaving-keeps own (ways_in w.kind) (kind-lawful w.kind) bytes now w.table l are fits (whole-table w o))
    (leaving-formed own w.kind bytes now w.table l (whole-profile w o))
    (numbers-leaving own (ways_in w.kind) bytes now w.table l)
