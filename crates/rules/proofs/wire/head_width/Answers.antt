-- `rules::wire::head_width` meets its contract. Assumes nothing.
use Prim.Native.Nat.{ℕ}
use mathlib.Core.Path.{◌≡◌}
use borrow.Author.Tests.{eq-eqb, ne_eqb}
use Rattle.rules.specs.Digest.{count_width, head_width}
use Rattle.rules.proofs.wire.head_width.Goals as goal

module _ (edition : ℕ) where
  counted : edition ≡ 0 → count_width ≡ head_width edition
  unfolding head_width
  counted e = rw (eq-eqb edition 0 e)

  bare : (edition ≡ 0 → ⊥) → 0 ≡ head_width edition
  unfolding head_width
  bare h = rw (ne_eqb edition 0 h)

pub returns-then-edition-eq-V0 : goal.returns-then-edition-eq-V0
returns-then-edition-eq-V0 c =
    counted c.args.edition c.if-edition-eq-V0.true

pub returns : goal.returns
returns c =
    bare c.args.edition c.if-edition-eq-V0.false
