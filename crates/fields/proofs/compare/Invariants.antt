-- `fields::compare` meets its contract: what is left stands as the wholes do. Assumes nothing.
use Prim.Native.Nat.{◌*◌, ◌≤◌}
use mathlib.Core.Path.{◌≡◌}
use lib.ListN.{length, drop}
use Rattle.std.specs.Iterator.Adapters.{zip_first, zip_second}
use Rattle.std.specs.Slice.Iter.{chunks_exact_rest, chunks_exact_size}
use Rattle.fields.specs.Order.{order_of}
use Rattle.fields.proofs.compare.Given as goal

abbrev pub invariant-loop-x : goal.invariant-loop-x
invariant-loop-x l = record {
  first_eight : chunks_exact_size (zip_first l.x-iterator) ≡ 8;
  second_eight : chunks_exact_size (zip_second l.x-iterator) ≡ 8;
  first_rest : chunks_exact_rest (zip_first l.x-iterator) ≡ drop (8 * length l.yielded) l.a;
  second_rest : chunks_exact_rest (zip_second l.x-iterator) ≡ drop (8 * length l.yielded) l.b;
  first_room : 8 * length l.yielded ≤ length l.a;
  second_room : 8 * length l.yielded ≤ length l.b;
  order : order_of (drop (8 * length l.yielded) l.a) (drop (8 * length l.yielded) l.b) ≡ order_of l.a l.b;
}
