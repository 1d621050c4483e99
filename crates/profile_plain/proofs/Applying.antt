-- Applying, which looks at the profile where it reads the delta: in a table that is not shared it reads as document 01 does, or refuses with 17. So what it does
-- where it does not answer 17 it does in the freed table. Assumes nothing.
use Prim.Native.Nat.{ℕ, zero, suc, ◌+◌, ◌-◌}
use mathlib.Core.Path.{◌≡◌, refl, ap, sym, ◌∙◌}
use mathlib.Core.Bool.{Bool, true, false, false≢true}
use mathlib.Core.List.{List, [], ◌∷◌}
use mathlib.Core.Logic.{◌⊎◌, inl, inr}
use lib.Dec.{leb}
use lib.ListN.{length}
use Rattle.fields.specs.Choice.{pick}
use Rattle.rules.specs.Sizes.{max_delta}
use Rattle.rules.specs.Answers.{applied_told}
use Rattle.rules.specs.Apply.{ApplyOutcome, Taking, apply, apply_node, apply_ops, ways_in}
use Rattle.rules.specs.Delta.{Bad, Fault, Faulty, Followed, Got, Next, Op, OpRead, Ops, Reading, and_then, follow, nothing_read, on_followed, on_read, read_delta, read_op, read_ops}
use Rattle.rules.specs.Given.{Given, given}
use Rattle.rules.specs.Lent.{TableAndList, both, lent_apply, stored_apply}
use Rattle.rules.specs.Node.{Rec}
use Rattle.rules.specs.Profile.{Kind, and_form, kind, on_read_as, op_in_form, read_delta_as, read_ops_as, roomy_in}
use Rattle.rules.specs.Table.{Table}
use Rattle.rules.specs.Whole.{Whole, decode_whole, obeys_whole, valid_whole, with_table}
use Rattle.std.specs.Prelude.{Result}
use Rattle.rules.specs.declared.DeltaFault.{DeltaFault}
use Rattle.rules.specs.declared.Profile.{Profile}
use Rattle.rules.specs.declared.Profile.TheVariants.{Free, Meter, Shared}
use Rattle.rules.specs.declared.Refusal.TheVariants.{BadForm, TooMany}
use Rattle.rules.proofs.Refusing.{whole-bytes}
use Rattle.profiles.proofs.Lawful.{taken_as_lem}
use Rattle.profiles.proofs.Reading.{free-reads}
use Rattle.table.proofs.Encoded.{apply-whole}
use Rattle.table.proofs.Wholes.{whole-obeys}
use Rattle.profile_plain.specs.Plain.{freed, unshared}
use Rattle.profile_plain.proofs.Freed.{as-free, free, free-obeys, freed-bytes, freed-is}

-- ---- reading

-- as document 01 reads, or 17
abbrev Reads : (in-profile plain : Ops) → Type 0
Reads x y = (x ≡ y) ⊎ ((at : ℕ) × (x ≡ Faulty BadForm at))

and-then : (o : Op) (x y : Ops) → Reads x y → Reads (and_then o x) (and_then o y)
and-then o x y (inl e) = inl (ap (and_then o) e)
and-then o x y (inr f) = inr (f.0, ap (and_then o) f.1)

ops-read : (n at : ℕ) (s : Reading) (l : List ℕ) → Reads (read_ops_as Meter n at s l) (read_ops n at s l)
unfolding read_ops_as read_ops
ops-read zero at s l = inl refl
ops-read (suc n) at s [] = inl refl
ops-read (suc n) at s (b ∷ l) = go (read_op (b ∷ l)) (λ s' rest. ops-read n (at + (length (b ∷ l) - length rest)) s' rest)
  where
    Further : Type 0
    Further = (s' : Reading) (rest : List ℕ) → Reads (read_ops_as Meter n (at + (length (b ∷ l) - length rest)) s' rest) (read_ops n (at + (length (b ∷ l) - length rest)) s' rest)

    on : (o : Op) (rest : List ℕ) (x : Bool) (f : Followed) → Further
        → Reads (on_followed at o (λ s'. read_ops_as Meter n (at + (length (b ∷ l) - length rest)) s' rest) (and_form Meter x f)) (on_followed at o (λ s'. read_ops n (at + (length (b ∷ l) - length rest)) s' rest) f)
    on o rest x (Fault r) ih = inl refl
    on o rest true (Next s') ih = and-then o _ _ (ih s' rest)
    on o rest false (Next s') ih = inr (at, refl)

    go : (r : OpRead) → Further
        → Reads (on_read_as Meter at s (λ s' rest. read_ops_as Meter n (at + (length (b ∷ l) - length rest)) s' rest) r) (on_read at s (λ s' rest. read_ops n (at + (length (b ∷ l) - length rest)) s' rest) r)
    go (Bad r) ih = inl refl
    go (Got o rest) ih = on o rest (op_in_form Meter o) (follow s o) ih

meter-read : (l : List ℕ) → Reads (read_delta_as Meter l) (read_delta l)
unfolding read_delta_as read_delta
meter-read l = go (leb (length l) max_delta)
  where
    go : (b : Bool) → Reads (pick b (read_ops_as Meter (length l) 0 nothing_read l) (Faulty TooMany 0)) (pick b (read_ops (length l) 0 nothing_read l) (Faulty TooMany 0))
    go true = ops-read (length l) 0 nothing_read l
    go false = inl refl

delta-read : (p : Profile) → unshared p ≡ true → (l : List ℕ) → Reads (read_delta_as p l) (read_delta l)
delta-read Free o l = inl (free-reads l)
delta-read Meter o l = meter-read l
delta-read Shared o l = absurd (false≢true o)

-- ---- a table

-- its nodes take as those of its mode
taken_free : (k : Kind) → unshared k.profile ≡ true → (now : ℕ) → apply_node (ways_in (kind k.mode Free)) now ≡ apply_node (ways_in k) now
taken_free k o now = λ z d n. taken_as_lem (kind k.mode Free) k refl room now d n z
  where
    room : (l : List Rec) → roomy_in Free l ≡ roomy_in k.profile l
    room l = as-free k.profile o (λ p. roomy_in p l) refl

applied-free : (k : Kind) → unshared k.profile ≡ true → (delta : List ℕ) (now : ℕ) (t : Table) (list : List ℕ) → ((applied_told (apply (ways_in k) delta now t list).answer).number ≡ 17 → ⊥)
    → apply (ways_in (kind k.mode Free)) delta now t list ≡ apply (ways_in k) delta now t list
unfolding apply applied_told
applied-free k o delta now t list h =
    ap (λ (x : Ops). apply_ops (apply_node (ways_in (kind k.mode Free)) now) x t list) (free-reads delta)
    ∙ ap (λ (f : Taking). apply_ops f (read_delta delta) t list) (taken_free k o now)
    ∙ sym (ap (λ (x : Ops). apply_ops (apply_node (ways_in k) now) x t list) (go (delta-read k.profile o delta)))
  where
    go : Reads (read_delta_as k.profile delta) (read_delta delta) → read_delta_as k.profile delta ≡ read_delta delta
    go (inl e) = e
    go (inr f) = absurd (h (ap (λ (x : Ops). (applied_told (apply_ops (apply_node (ways_in k) now) x t list).answer).number) f.1))

-- ---- its bytes

abbrev pub freed_both : Given (Result ℕ DeltaFault) TableAndList → Given (Result ℕ DeltaFault) TableAndList
freed_both o = given o.answer (both (freed o.lent.table) o.lent.list)

pub apply-freed : (l : List ℕ) → valid_whole l ≡ true → unshared (decode_whole l).kind.profile ≡ true → (delta : List ℕ) (now : ℕ) (list : List ℕ) → ((applied_told (lent_apply delta now list l).answer).number ≡ 17 → ⊥)
    → lent_apply delta now list (freed l) ≡ freed_both (lent_apply delta now list l)
apply-freed l v o delta now list h =
    ap (lent_apply delta now list) (freed-is l v)
    ∙ apply-whole (free w) (free-obeys w ok) delta now list
    ∙ ap (stored_apply (free w)) (applied-free w.kind o delta now w.table list (λ e. h (ap (λ (o : Given (Result ℕ DeltaFault) TableAndList). (applied_told o.answer).number) here ∙ e)))
    ∙ ap (λ (b : List ℕ). given out.answer (both b out.list)) (sym (freed-bytes (with_table out.table w)))
    ∙ sym (ap freed_both here)
  where
    w : Whole
    w = decode_whole l

    ok : obeys_whole w ≡ true
    ok = whole-obeys l v

    out : ApplyOutcome
    out = apply (ways_in w.kind) delta now w.table list

    here : lent_apply delta now list l ≡ stored_apply w out
    here = ap (lent_apply delta now list) (sym (whole-bytes l v)) ∙ apply-whole w ok delta now list
