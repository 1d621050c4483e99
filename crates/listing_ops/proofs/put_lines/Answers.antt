-- `listing_ops::put_lines` meets its contract: the lines that are left, put now, give what the contract says. Assumes nothing.
use Prim.Native.Nat.{ℕ, ◌+◌, ◌≤◌, ◌<◌}
use mathlib.Core.Path.{◌≡◌, refl, ap, sym, ◌∙◌, subst}
use mathlib.Core.List.{List, [], ◌++◌}
use native.Mathlib.Omega.{arith}
use lib.ListN.{length, length-append}
use Rattle.delta_op.specs.declared.Op.{Op}
use Rattle.fields.specs.Parts.{put}
use Rattle.fields.proofs.Parts.{put-behind, put-nil}
use Rattle.delta_op.specs.Places.{op_of, op_at}
use Rattle.std.specs.Prelude.{Ok}
use Rattle.delta_op.proofs.Reading.{Within}
use Rattle.rules.specs.Listing.{op_line}
use Rattle.listing_text.specs.Texts.{TextFits}
use Rattle.listing_text.proofs.Texts.{Put, fits-first, put-long}
use Rattle.listing_ops.specs.Lines.{lines_from}
use Rattle.listing_ops.proofs.Lines.{lines_end, lines-bad, lines_next, within}
use Rattle.listing_ops.proofs.put_lines.Goals as goal

-- one turn: room for the line and those behind it, and what the operation is
module _ (l out : List ℕ) (n at : ℕ) (o : Op) (next : ℕ) (e : op_at l at ≡ (Ok (o, next))) (h : at < length l) (fits : TextFits n (lines_from l at) out) where
  turn : (TextFits n (op_line (op_of l o) ++ lines_from l next) out) × (Within (length l) at (Ok (o, next)))
  turn = (subst (λ (t : List ℕ). TextFits n t out) (lines_next l at h o next e) fits, within l at o next e)

  again : (out₀ out' : List ℕ) (n' k : ℕ) (t : List ℕ) → Put n (op_line (op_of l o)) out out' n' → length out ≡ length out₀
      → n + length (lines_from l at) ≡ k → put n (lines_from l at) out ≡ t
      → (next ≤ length l) × (length out' ≡ length out₀) × (n' + length (lines_from l next) ≡ k) × (put n' (lines_from l next) out' ≡ t)
  again out₀ out' n' k t w q r p =
      let line : List ℕ = op_line (op_of l o) in
      let d : length (lines_from l at) ≡ length line + length (lines_from l next) =
      ap length (lines_next l at h o next e) ∙ length-append line (lines_from l next) in (
        turn.1.1,
        put-long n line out out' n' (fits-first n line (lines_from l next) out turn.0) w ∙ q,
        omega (arith, w.0),
        ap (λ (j : ℕ). put j (lines_from l next) out') w.0
            ∙ ap (put (n + length line) (lines_from l next)) w.1
            ∙ put-behind n line (lines_from l next) out (omega arith)
            ∙ ap (λ (x : List ℕ). put n x out) (sym (lines_next l at h o next e))
            ∙ p,
      )

-- nothing left
stopped : (l out out₀ : List ℕ) (at n : ℕ) (all : List ℕ) → n + length (lines_from l at) ≡ length all → put n (lines_from l at) out ≡ put 0 all out₀
    → lines_from l at ≡ [] → Put 0 all out₀ out n
stopped l out out₀ at n all e p z = (omega (arith, ap length z), sym (put-nil n out) ∙ ap (λ (x : List ℕ). put n x out) (sym z) ∙ p)

pub loop-at-init : goal.loop-at-init
loop-at-init c =
    (omega arith, refl, omega arith, refl)

pub shape_of-out-in_default : goal.shape_of-out-in_default
shape_of-out-in_default c =
    c.loop-at.invariant.1

pub returns-in_default : goal.returns-in_default
returns-in_default c =
    let bad = lines-bad _ _ c.loop-at-test.true _ (sym c.read_op.ensures ∙ c.in_default.is) in
    stopped _ _ _ _ _ _ c.loop-at.invariant.2 c.loop-at.invariant.3 bad

pub put_line-n-requires : goal.put_line-n-requires
put_line-n-requires c =
    let q = c.loop-at in
    let l = c.args.delta.now in
    let e = sym c.read_op.ensures ∙ c.in-Ok.is in
    let t = turn l q.out q.n q.at _ _ e c.loop-at-test.true (omega (arith, q.invariant.1, q.invariant.2, c.requires)) in
    (t.1.2, fits-first q.n (op_line (op_of l c.in-Ok.op)) (lines_from l c.in-Ok.next) q.out t.0)

pub loop-at-smaller : goal.loop-at-smaller
loop-at-smaller c =
    let w = within _ _ _ _ (sym c.read_op.ensures ∙ c.in-Ok.is) in
    omega (arith, w.0, w.1)

pub loop-at-preserved : goal.loop-at-preserved
loop-at-preserved c =
    let q = c.loop-at in
    let e = sym c.read_op.ensures ∙ c.in-Ok.is in
    again c.args.delta.now q.out q.n q.at _ _ e c.loop-at-test.true (omega (arith, q.invariant.1, q.invariant.2, c.requires))
    c.args.out.now _ _ _ _ c.put_line-n.ensures q.invariant.1 q.invariant.2 q.invariant.3

pub shape_of-out : goal.shape_of-out
shape_of-out c =
    c.loop-at.invariant.1

pub returns : goal.returns
returns c =
    stopped _ _ _ _ _ _ c.loop-at.invariant.2 c.loop-at.invariant.3 (lines_end _ _ c.loop-at-test.false)
