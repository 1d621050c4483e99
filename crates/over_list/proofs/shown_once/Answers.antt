-- `over_list::shown_once` meets its contract. Assumes nothing.
use Prim.Native.Nat.{ℕ}
use mathlib.Core.Path.{◌≡◌, refl, sym, ◌∙◌}
use mathlib.Core.Bool.{Bool, true, false, not, true≢false, false≢true}
use Rattle.fields.specs.Choice.{pick}
use Rattle.rules.specs.Node.{hidden}
use Rattle.table.specs.Places.{rec_at}
use Rattle.over_list.proofs.shown_once.Goals as goal

one : (t : Bool) → not t ≡ true → ◌≡◌ {A = ℕ} 1 (pick t 0 1)
one true e = absurd (false≢true e)
one false e = refl

none : (t : Bool) → not t ≡ false → ◌≡◌ {A = ℕ} 0 (pick t 0 1)
none true e = refl
none false e = absurd (true≢false e)

pub returns-then-is_shown : goal.returns-then-is_shown
returns-then-is_shown c =
    let a = c.args in one (hidden (rec_at a.j a.node.now).kv.status) (sym c.is_shown.ensures ∙ c.if-is_shown.true)

pub returns-else-is_shown : goal.returns-else-is_shown
returns-else-is_shown c =
    let a = c.args in none (hidden (rec_at a.j a.node.now).kv.status) (sym c.is_shown.ensures ∙ c.if-is_shown.false)
