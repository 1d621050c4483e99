-- Which numbers making a delta gives: a line in its form tells a whole operation, so that of the numbers of reading a delta only 13, 11 and 12 come.
-- Assumes nothing.
use Prim.Native.Nat.{ℕ, zero, suc, ◌+◌, ◌-◌}
use mathlib.Core.Path.{◌≡◌, refl, ap, sym, ◌∙◌, subst}
use mathlib.Core.Bool.{Bool, true, false}
use mathlib.Core.List.{List, [], ◌∷◌, ◌++◌}
use lib.Dec.{leb, ltb}
use lib.ListN.{length}
use Rattle.fields.specs.Blocks.{flat}
use Rattle.fields.specs.Choice.{◌∈◌, here, later, pick}
use Rattle.fields.specs.Numbers.{Bytes}
use Rattle.fields.specs.Parts.{put}
use Rattle.rules.specs.Answers.{number_of}
use Rattle.rules.specs.Delta as rule
use Rattle.rules.specs.Delta.{Fault, Followed, KeyValueOp, Next, NodeOp, Op, Ops, Reading, SetMaxVersionOp, and_then, delta_bytes, follow, nothing_read}
use Rattle.rules.specs.Delta.{on_followed, on_read, op_bytes, read_delta, read_ops, under_node, unless_end}
use Rattle.rules.specs.Given.{given}
use Rattle.rules.specs.Sizes.{max_delta, max_nodes}
use Rattle.rules.specs.Table.{among}
use Rattle.rules.specs.declared.Refusal.{Refusal}
use Rattle.rules.specs.declared.Refusal.TheVariants.{NodeTwice, NoPlace, OutOfOrder, TooMany}
use Rattle.rules.proofs.Deltas.{AllSmall, read_none}
use Rattle.rules.proofs.Ops.{read-written}
use Rattle.listing_read.specs.Unlist.{All, BadLine, Delta, Faulty, Lines, NotInForm, Unlisted, judged, of_lines, read_lines, unlist}
use Rattle.listing_read.proofs.Relisted.{lines_are}
use Rattle.std.specs.Prelude.{Ok}
use Rattle.delta_make.specs.Making.{refused_at}
use Rattle.listing_make.specs.Make.{lent_make, lent_unlisted, made_told, placed}

-- ---- reading whole operations

abbrev Few : (why : Refusal) → Type 0
Few r = number_of r ∈ (13 ∷ 11 ∷ 12 ∷ [])

abbrev FewFollowed : (followed : Followed) → Type 0
FewFollowed (Next s) = Unit {0}
FewFollowed (Fault r) = Few r

abbrev FewRead : (read : Ops) → Type 0
FewRead (rule.Good ops) = Unit {0}
FewRead (rule.Faulty r at) = Few r

too_many : Few TooMany
too_many = here refl

out_of_order : Few OutOfOrder
out_of_order = later (here refl)

node-twice : Few NodeTwice
node-twice = later (later (here refl))

under-few : (seen : List ℕ) (f : Followed) → FewFollowed f → FewFollowed (under_node seen f)
under-few [] f w = out_of_order
under-few (n ∷ ns) f w = w

either-few : (t : Bool) (s : Reading) (r : Refusal) → Few r → FewFollowed (pick t (Next s) (Fault r))
either-few true s r w = tt
either-few false s r w = w

follow-few : (s : Reading) (o : Op) → FewFollowed (follow s o)
unfolding follow
follow-few s (NodeOp n g f) = go (among n s.seen)
  where
    go : (t : Bool) → FewFollowed (pick t (Fault NodeTwice) (pick (ltb (length s.seen) max_nodes) (Next (record { seen = n ∷ s.seen; running = 0 })) (Fault TooMany)))
    go true = node-twice
    go false = either-few (ltb (length s.seen) max_nodes) (record { seen = n ∷ s.seen; running = 0 }) TooMany too_many
follow-few s (KeyValueOp r) =
    under-few s.seen _ (either-few (ltb s.running r.version) (record { seen = s.seen; running = r.version }) OutOfOrder out_of_order)
follow-few s (SetMaxVersionOp m) =
    under-few s.seen _ (either-few (leb s.running m) (record { seen = s.seen; running = m }) OutOfOrder out_of_order)

not_end : (o : Op) (l : List ℕ) (x : Ops) → unless_end (op_bytes o ++ l) x ≡ x
unfolding op_bytes
not_end (NodeOp n g f) l x = refl
not_end (KeyValueOp r) l x = refl
not_end (SetMaxVersionOp m) l x = refl

then-few : (o : Op) (x : Ops) → FewRead x → FewRead (and_then o x)
then-few o (rule.Good ops) w = w
then-few o (rule.Faulty r at) w = w

followed-few : (at : ℕ) (o : Op) (next : Reading → Ops) (f : Followed) → FewFollowed f → ((s : Reading) → FewRead (next s)) → FewRead (on_followed at o next f)
followed-few at o next (Next s) w more = then-few o (next s) (more s)
followed-few at o next (Fault r) w more = w

read-few : (ops : List Op) (n at : ℕ) (s : Reading) → AllSmall ops → FewRead (read_ops n at s (flat op_bytes ops))
unfolding flat read_ops AllSmall
read-few [] n at s a = subst FewRead (sym (read_none n at s)) tt
read-few (o ∷ ops) zero at s a = tt
read-few (o ∷ ops) (suc n) at s a =
    let rest : List ℕ = flat op_bytes ops in
    let next : Reading → List ℕ → Ops = λ t r. read_ops n (at + (length (op_bytes o ++ rest) - length r)) t r in
    subst FewRead (sym (not_end o rest _ ∙ ap (on_read at s next) (read-written o rest a.0)))
    (followed-few at o (λ t. next t rest) (follow s o) (follow-few s o) (λ t. read-few ops n (at + (length (op_bytes o ++ rest) - length rest)) t a.1))

delta-few : (ops : List Op) → AllSmall ops → FewRead (read_delta (delta_bytes ops))
unfolding read_delta delta_bytes
delta-few ops a = go (leb (length (flat op_bytes ops)) max_delta)
  where
    go : (t : Bool) → FewRead (pick t (read_ops (length (flat op_bytes ops)) 0 nothing_read (flat op_bytes ops)) (rule.Faulty TooMany 0))
    go true = read-few ops (length (flat op_bytes ops)) 0 nothing_read a
    go false = too_many

-- ---- the listing

abbrev FewUnlisted : (read : Unlisted) → Type 0
FewUnlisted (Delta b) = Unit {0}
FewUnlisted (NotInForm n) = Unit {0}
FewUnlisted (Faulty why at) = Few why

judged-few : (b : Bytes) (x : Ops) → FewRead x → FewUnlisted (judged b x)
judged-few b (rule.Good ops) w = tt
judged-few b (rule.Faulty r at) w = w

unlisted-few : (t : Bytes) → FewUnlisted (unlist t)
unfolding unlist
unlisted-few t = go (read_lines (length t) 0 0 t) refl
  where
    go : (x : Lines) → read_lines (length t) 0 0 t ≡ x → FewUnlisted (of_lines x)
    go (All ops) e = judged-few (delta_bytes ops) (read_delta (delta_bytes ops)) (delta-few ops (lines_are (length t) 0 0 t ops e).small)
    go (BadLine n) e = tt

-- ---- the call

placed-number : (b out : Bytes) → (made_told (placed b out).answer).number ∈ (0 ∷ 16 ∷ 13 ∷ 11 ∷ 12 ∷ 8 ∷ [])
unfolding placed made_told
placed-number b out = go (leb (length b) (length out))
  where
    go : (t : Bool)
        → (made_told (pick t (given (Ok (length b)) (put 0 b out)) (given (refused_at NoPlace 0) out)).answer).number ∈ (0 ∷ 16 ∷ 13 ∷ 11 ∷ 12 ∷ 8 ∷ [])
    go true = here refl
    go false = later (later (later (later (later (here refl)))))

in-front : (n : ℕ) → n ∈ (13 ∷ 11 ∷ 12 ∷ []) → n ∈ (13 ∷ 11 ∷ 12 ∷ 8 ∷ [])
in-front n (here e) = here e
in-front n (later (here e)) = later (here e)
in-front n (later (later (here e))) = later (later (here e))
in-front n (later (later (later x))) = elim x [ ]

-- 0 where the delta is accepted, or one of five numbers
pub made-numbers : (text out : Bytes) → (made_told (lent_make text out).answer).number ∈ (0 ∷ 16 ∷ 13 ∷ 11 ∷ 12 ∷ 8 ∷ [])
unfolding made_told
made-numbers text out = go (unlist text) (unlisted-few text)
  where
    go : (x : Unlisted) → FewUnlisted x → (made_told (lent_unlisted x out).answer).number ∈ (0 ∷ 16 ∷ 13 ∷ 11 ∷ 12 ∷ 8 ∷ [])
    go (Delta b) w = placed-number b out
    go (NotInForm n) w = later (here refl)
    go (Faulty why at) w = later (later (in-front (number_of why) w))
