-- A hexadecimal digit is printed as a capital, and a line with a small one is none. Assumes nothing.
use mathlib.Core.List.{◌++◌}
use mathlib.Core.Path.{◌≡◌, refl}
use Rattle.fields.specs.Blocks.{flat}
use Rattle.fields.specs.Choice.{all}
use Rattle.fields.specs.Numbers.{bytes_of, nat_of}
use Rattle.fields.specs.Order.{same_bytes, starts_with}
use Rattle.rules.specs.Delta.{delta_bytes, follow, op_bytes, read_delta, read_key_value, read_op, read_ops, size_of, text_bytes}
use Rattle.rules.specs.Listing.{ascii, decimal, digits, end_line, hex_digit, line_feed, plain, shown_bytes}
use Rattle.rules.specs.declared.Refusal.TheVariants.{OutOfOrder}
use Rattle.listing_read.specs.Unlist.{Faulty, NotInForm, front, hex_value, read_line, read_lines, unlist, unshown, value_from}

-- A line feed as a key. With capitals the line is in its form, and the delta is refused for its order alone.
pub capitals : unlist (ascii "op=kv version=1 status=set key=%0A value=" ++ (line_feed ++ end_line 1 15)) ≡ Faulty OutOfOrder 0
unfolding unlist read_lines read_line front value_from starts_with same_bytes decimal digits unshown hex_value hex_digit plain shown_bytes all size_of delta_bytes flat op_bytes bytes_of read_delta read_ops read_op read_key_value nat_of follow text_bytes
capitals = refl

pub small-letters : unlist (ascii "op=kv version=1 status=set key=%0a value=" ++ (line_feed ++ end_line 1 15)) ≡ NotInForm 1
unfolding unlist read_lines read_line front value_from starts_with same_bytes decimal digits unshown hex_value hex_digit plain shown_bytes all
small-letters = refl
