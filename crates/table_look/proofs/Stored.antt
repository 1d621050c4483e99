-- Where the table of a file stands, by what is known of the file. Assumes nothing.
use Prim.Native.Nat.{◌-◌, ◌<◌, ◌≤◌}
use mathlib.Core.Path.{◌≡◌, sym, ◌∙◌}
use mathlib.Core.Bool.{true, false}
use native.Mathlib.Omega.{arith}
use lib.Dec.{ltb}
use lib.ListN.{length, take, drop, length-drop}
use lib.Seq.{take_all}
use borrow.Author.Tests.{le-ltb, lt-ltb}
use Rattle.fields.specs.Choice.{pick}
use Rattle.fields.specs.Numbers.{Bytes}
use Rattle.fields.specs.Order.{starts_with}
use Rattle.fields.proofs.Choice.{pick-false, pick_true}
use Rattle.table_look.specs.Stored.{head_start, head_width, table_in}

module _ (l : Bytes) where
  abbrev long : Bytes
  long = pick (starts_with head_start l) (drop head_width l) l

  pub in-short : length l < head_width → l ≡ table_in l
  unfolding table_in
  in-short h = sym (pick_true (ltb (length l) head_width) l long (lt-ltb (length l) head_width h))

  in-long : head_width ≤ length l → table_in l ≡ long
  unfolding table_in
  in-long h = pick-false (ltb (length l) head_width) l long (le-ltb (length l) head_width h)

  pub in-headed : head_width ≤ length l → starts_with head_start l ≡ true → take (length l - head_width) (drop head_width l) ≡ table_in l
  in-headed h e =
      take_all (length l - head_width) (drop head_width l) (omega (arith, length-drop head_width l))
      ∙ sym (in-long h ∙ pick_true (starts_with head_start l) (drop head_width l) l e)

  pub in-bare : head_width ≤ length l → starts_with head_start l ≡ false → l ≡ table_in l
  in-bare h e = sym (in-long h ∙ pick-false (starts_with head_start l) (drop head_width l) l e)
