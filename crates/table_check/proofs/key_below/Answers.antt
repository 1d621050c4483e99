-- `table_check::key_below` meets its contract: what `compare` says of the two keys. Assumes nothing.
use Prim.Native.Nat.{ℕ}
use mathlib.Core.Path.{◌≡◌, sym, ap, ap₂, ◌∙◌}
use mathlib.Core.Bool.{false}
use mathlib.Core.List.{List}
use Rattle.fields.specs.Order.{less_bytes, order_of}
use Rattle.std.specs.declared.cmp.Ordering.{Ordering}
use Rattle.std.specs.declared.cmp.Ordering.TheVariants.{Equal, Greater}
use Rattle.fields.proofs.Ordered.{order-less, order_same, order-more, same_true, less-self, less-not}
use Rattle.table_check.proofs.key_below.Goals as goal

same-not-less : (j k : List ℕ) → order_of j k ≡ Equal → less_bytes j k ≡ false
same-not-less j k e = ap (λ (x : List ℕ). less_bytes x k) (same_true j k (order_same j k e)) ∙ less-self k

more-not-less : (j k : List ℕ) → order_of j k ≡ Greater → less_bytes j k ≡ false
more-not-less j k e = less-not k j (order-more j k e)

-- what is told of the keys that were read is told of the records'
told : {o : Ordering} {x y j k : List ℕ} → o ≡ order_of x y → x ≡ j → y ≡ k → order_of j k ≡ o
told e p q = sym (e ∙ ap₂ order_of p q)

pub returns-in-Less : goal.returns-in-Less
returns-in-Less c =
    sym (order-less _ _ (told c.compare.ensures c.key_of.ensures c.key_of-2.ensures ∙ c.in-Less.is))

pub returns-in-Equal : goal.returns-in-Equal
returns-in-Equal c =
    sym (same-not-less _ _ (told c.compare.ensures c.key_of.ensures c.key_of-2.ensures ∙ c.in-Equal.is))

pub returns-in-Greater : goal.returns-in-Greater
returns-in-Greater c =
    sym (more-not-less _ _ (told c.compare.ensures c.key_of.ensures c.key_of-2.ensures ∙ c.in-Greater.is))
