-- What arrives of the deltas that were ever computed. A gateway's part of a delta that reads well reads well too, and brings of each node what the delta brings of it, or nothing.
-- Assumes nothing.
use Prim.Native.Nat.{ℕ, zero, suc, ◌≤◌}
use mathlib.Core.Bool.{Bool, false, true}
use mathlib.Core.List.{List, [], ◌∷◌, ◌++◌}
use mathlib.Core.Option.{some}
use mathlib.Core.Path.{◌∙◌, ◌≡◌, ap, refl, subst, sym}
use native.Mathlib.Omega.{arith}
use native.Mathlib.Nat.{zero-add}
use lib.Dec.{eqb, leb}
use lib.ListN.{drop, length, take}
use lib.Seq.{drop_at, take_at}
use borrow.Author.Tests.{eqb-false, leb-true, ne_eqb}
use Rattle.fields.specs.Choice.{all, here, later, pick, ◌∈◌}
use Rattle.rules.specs.Delta.{Faulty, Good, NodeDelta, Op, Ops, Part, delta_bytes, nothing_read, parts_of, read_delta, read_ops}
use Rattle.rules.specs.Profile.{op_in_form, read_delta_as}
use Rattle.rules.specs.Sizes.{max_delta}
use Rattle.rules.specs.Table.{among}
use Rattle.rules.specs.declared.Profile.{Profile}
use Rattle.rules.specs.declared.Refusal.TheVariants.{TooMany}
use Rattle.rules.proofs.Deltas.{AllSmall, Chain}
use Rattle.rules.proofs.Obeys.{among_in}
use Rattle.rules.proofs.Tables.{part_in, part_at}
use Rattle.profiles.proofs.Reading.{delta-formed, delta-plain, form-first, form-second}
use Rattle.delta_split.specs.Split.{cut_places}
use Rattle.delta_split.proofs.Cutting.{bytes_cut, chain_first, chain_second, parts-apart, parts_cut, small-first, small-second}
use Rattle.delta_split.proofs.Each.{Apart}
use Rattle.delta_split.proofs.Parts.{CutOps, read-both, tag-cuts}
use Rattle.demand3.proofs.EachNode.{parts_in}
use Rattle.demand3.specs.World.{Before, Cut, DeltaSent, DigestSent, Exchange, From, Idle, Which, arrives, cut_by, nth_sent}

-- bytes that are read as operations that may follow each other and have their sizes, and are the bytes of these
abbrev pub ReadsWell : List ℕ → Type 0
ReadsWell b = (ops : List Op) × (read_delta b ≡ Good ops) × Chain nothing_read ops × AllSmall ops × (delta_bytes ops ≡ b)

-- these bytes are a delta to a table of the profile
abbrev pub IsRead : Profile → List ℕ → Type 0
IsRead p b = (ops : List Op) × (read_delta_as p b ≡ Good ops)

-- c is b, or what gateways leave of it
pub record Parted (b c : List ℕ) : Type 0 where
  pub reads : ReadsWell c
  pub each : (i : ℕ) (d : NodeDelta) → part_at i (parts_of reads.0) ≡ some d → part_at i (parts_in (read_delta b)) ≡ some d
  pub in-form : (p : Profile) → IsRead p b → IsRead p c

-- ---- a node's part in one of two lists

at_first : (i : ℕ) (xs ys : List Part) {d : NodeDelta} → part_at i xs ≡ some d → part_at i (xs ++ ys) ≡ some d
unfolding part_at
at_first i [] ys q = let z : ◌≡◌ {A = ℕ} 0 1 = cc in absurd (omega arith)
at_first i (x ∷ xs) ys {d} q = go (eqb i x.number) q (at_first i xs ys)
  where
    go : (b : Bool) → pick b (some x.delta) (part_at i xs) ≡ some d → (part_at i xs ≡ some d → part_at i (xs ++ ys) ≡ some d) → pick b (some x.delta) (part_at i (xs ++ ys)) ≡ some d
    go true q ih = q
    go false q ih = ih q

at_second : (i : ℕ) (xs ys : List Part) {d : NodeDelta} → Apart xs ys → part_at i ys ≡ some d → part_at i (xs ++ ys) ≡ some d
unfolding part_at
at_second i [] ys a q = q
at_second i (x ∷ xs) ys a q =
    let y = part_in i ys q in
    let other : eqb i x.number ≡ false = ne_eqb i x.number (λ e. eqb-false x.number y.0.number (a x y.0 (here refl) y.1) (sym e ∙ y.3)) in
    rw other (at_second i xs ys (λ u v m n. a u v (later m) n) q)

-- ---- one cut

-- what is read is not too long
short : (b : List ℕ) (ops : List Op) → read_delta b ≡ Good ops → length b ≤ max_delta
unfolding read_delta
short b ops e = go (leb (length b) max_delta) refl e
  where
    go : (t : Bool) → leb (length b) max_delta ≡ t → pick t (read_ops (length b) 0 nothing_read b) (Faulty TooMany 0) ≡ Good ops → length b ≤ max_delta
    go true q e = leb-true _ _ q
    go false q e = let z : ◌≡◌ {A = ℕ} 0 1 = cc in absurd (omega arith)

good-is : (xs ys : List Op) → Good xs ≡ Good ys → xs ≡ ys
good-is xs ys e = cc

module _ (b : List ℕ) (r : ReadsWell b) (at : ℕ) (m : at ∈ cut_places (read_delta b)) where
  cut : CutOps 0 at r.0
  cut = tag-cuts 0 at r.0 (subst (λ (o : Ops). at ∈ cut_places o) r.1 m)

  abbrev xs : List Op
  xs = cut.first

  abbrev ys : List Op
  ys = cut.second

  chain : Chain nothing_read (xs ++ ys)
  chain = subst (Chain nothing_read) cut.ops_are r.2

  small : AllSmall (xs ++ ys)
  small = subst AllSmall cut.ops_are r.3

  whole_is : delta_bytes (xs ++ ys) ≡ b
  whole_is = ap delta_bytes (sym cut.ops_are) ∙ r.4

  two : b ≡ delta_bytes xs ++ delta_bytes ys
  two = sym whole_is ∙ bytes_cut xs ys

  long : length (delta_bytes xs) ≡ at
  long = sym (cut.place_is ∙ zero-add (length (delta_bytes xs)))

  both : (read_delta (delta_bytes xs) ≡ Good xs) × (read_delta (delta_bytes ys) ≡ Good ys)
  both = read-both xs ys cut.from_node chain small (subst (λ (l : List ℕ). length l ≤ max_delta) (sym whole_is) (short b r.0 r.1))

  -- the node deltas of the whole are those of both
  all-parts : (i : ℕ) → part_at i (parts_in (read_delta b)) ≡ part_at i (parts_of xs ++ parts_of ys)
  all-parts i = ap (λ (o : Ops). part_at i (parts_in o)) r.1 ∙ ap (λ (l : List Op). part_at i (parts_of l)) cut.ops_are ∙ ap (part_at i) (parts_cut xs ys cut.from_node)

  front-is : take at b ≡ delta_bytes xs
  front-is = ap (take at) two ∙ take_at (delta_bytes xs) (delta_bytes ys) at long

  rest-is : drop at b ≡ delta_bytes ys
  rest-is = ap (drop at) two ∙ drop_at (delta_bytes xs) (delta_bytes ys) at long

  -- and what is in form is so in both
  both-formed : (p : Profile) → IsRead p b → all (op_in_form p) (xs ++ ys) ≡ true
  both-formed p q =
      let z = delta-plain p b q.0 q.1 in
      let same : q.0 ≡ r.0 = good-is q.0 r.0 (sym z.0 ∙ r.1) in
      subst (λ (l : List Op). all (op_in_form p) l ≡ true) (same ∙ cut.ops_are) z.1

  front : Parted b (take at b)
  front =
      record {
        reads = (xs, ap read_delta front-is ∙ both.0, chain_first nothing_read xs ys chain, small-first xs ys small, sym front-is);
        each = λ i d q. all-parts i ∙ at_first i (parts_of xs) (parts_of ys) q;
        in-form = λ p q. (xs, delta-formed p (take at b) xs (form-first p xs ys (both-formed p q)) (ap read_delta front-is ∙ both.0));
      }

  rest : Parted b (drop at b)
  rest =
      record {
        reads = (ys, ap read_delta rest-is ∙ both.1, chain_second nothing_read xs ys cut.from_node chain, small-second xs ys small, sym rest-is);
        each = λ i d q. all-parts i ∙ at_second i (parts_of xs) (parts_of ys) (parts-apart nothing_read xs ys chain) q;
        in-form = λ p q. (ys, delta-formed p (drop at b) ys (form-second p xs ys (both-formed p q)) (ap read_delta rest-is ∙ both.1));
      }

-- ---- any number of them

pub uncut : (b : List ℕ) → ReadsWell b → Parted b b
uncut b r = record { reads = r; each = λ i d q. ap (λ (o : Ops). part_at i (parts_in o)) r.1 ∙ q; in-form = λ p q. q }

again : (b c e : List ℕ) → Parted b c → Parted c e → Parted b e
again b c e p q = record { reads = q.reads; each = λ i d x. p.each i d (sym (ap (λ (o : Ops). part_at i (parts_in o)) p.reads.1) ∙ q.each i d x); in-form = λ k x. q.in-form k (p.in-form k x) }

-- a node's part in it is the whole's, as that was read
pub at-whole : (b c : List ℕ) (r : ReadsWell b) (p : Parted b c) (i : ℕ) (d : NodeDelta) → part_at i (parts_of p.reads.0) ≡ some d → part_at i (parts_of r.0) ≡ some d
at-whole b c r p i d q = sym (ap (λ (o : Ops). part_at i (parts_in o)) r.1) ∙ p.each i d q

module _ (P : Exchange → Type 0) (nothing : P Idle) where
  pub cut-nothing : (cs : List Cut) → P (cut_by cs Idle)
  unfolding cut_by
  cut-nothing [] = nothing
  cut-nothing (c ∷ cs) = cut-nothing cs

  pub cut-delta : (cs : List Cut) (b c : List ℕ) → Parted b c → ((e : List ℕ) → Parted b e → P (DeltaSent e)) → P (cut_by cs (DeltaSent c))
  unfolding cut_by
  cut-delta [] b c p f = f c p
  cut-delta (Before at ∷ cs) b c p f = go (among at (cut_places (read_delta c))) refl (λ y. cut-delta cs b (take at c) y f)
    where
      go : (t : Bool) → among at (cut_places (read_delta c)) ≡ t → (Parted b (take at c) → P (cut_by cs (DeltaSent (take at c)))) → P (cut_by cs (pick t (DeltaSent (take at c)) Idle))
      go true q ih = ih (again b c (take at c) p (front c p.reads at (among_in at _ q)))
      go false q ih = cut-nothing cs
  cut-delta (From at ∷ cs) b c p f = go (among at (cut_places (read_delta c))) refl (λ y. cut-delta cs b (drop at c) y f)
    where
      go : (t : Bool) → among at (cut_places (read_delta c)) ≡ t → (Parted b (drop at c) → P (cut_by cs (DeltaSent (drop at c)))) → P (cut_by cs (pick t (DeltaSent (drop at c)) Idle))
      go true q ih = ih (again b c (drop at c) p (rest c p.reads at (among_in at _ q)))
      go false q ih = cut-nothing cs

  cut-nth : (cs : List Cut) (k : ℕ) (ss : List (List ℕ)) → ((b : List ℕ) → b ∈ ss → ReadsWell b) → ((b c : List ℕ) → b ∈ ss → Parted b c → P (DeltaSent c)) → P (cut_by cs (nth_sent k ss))
  unfolding nth_sent
  cut-nth cs k [] r f = cut-nothing cs
  cut-nth cs zero (b ∷ ss) r f = cut-delta cs b b (uncut b (r b (here refl))) (λ e p. f b e (here refl) p)
  cut-nth cs (suc k) (b ∷ ss) r f = cut-nth cs k ss (λ c m. r c (later m)) (λ c e m. f c e (later m))

  -- one of all deltas that were ever computed, or a part of one, or nothing
  pub nth-sent : (k : Which) (ss : List (List ℕ)) → ((b : List ℕ) → b ∈ ss → ReadsWell b) → ((b c : List ℕ) → b ∈ ss → Parted b c → P (DeltaSent c)) → P (arrives k ss)
  nth-sent k ss r f = cut-nth k.cuts k.delta ss r f

-- what is on its way, or a part of it
pub cut-way : (P : Exchange → Type 0) → P Idle → ((d : List ℕ) → P (DigestSent d)) → (cs : List Cut) (x : Exchange) → ((b : List ℕ) → x ≡ DeltaSent b → ReadsWell b)
    → ((b c : List ℕ) → x ≡ DeltaSent b → Parted b c → P (DeltaSent c)) → P (cut_by cs x)
unfolding cut_by
cut-way P nothing digest cs Idle r f = cut-nothing P nothing cs
cut-way P nothing digest cs (DigestSent d) r f = go cs
  where
    go : (cs : List Cut) → P (cut_by cs (DigestSent d))
    go [] = digest d
    go (c ∷ cs) = go cs
cut-way P nothing digest cs (DeltaSent b) r f = cut-delta P nothing cs b b (uncut b (r b refl)) (λ c p. f b c refl p)

-- what holds of every part holds of whatever arrives
pub arrived-so : (Q : List ℕ → Type 0) (k : Which) (ss : List (List ℕ)) → ((b : List ℕ) → b ∈ ss → ReadsWell b) → ((b c : List ℕ) → b ∈ ss → Parted b c → Q c) → (c : List ℕ) → arrives k ss ≡ DeltaSent c → Q c
arrived-so Q k ss r f c e =
    nth-sent (λ x. x ≡ DeltaSent c → Q c) (λ q. let z : ◌≡◌ {A = ℕ} 0 1 = cc in absurd (omega arith)) k ss r (λ b a m p q. subst Q (same a q) (f b a m p)) e
  where
    same : (a : List ℕ) → DeltaSent a ≡ DeltaSent c → a ≡ c
    same a q = cc
