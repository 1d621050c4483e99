-- `delta_make::store` meets its contract: where there is room, and where not. Assumes nothing.
use Prim.Native.Nat.{ℕ, ◌+◌, ◌-◌, ◌≤◌, ◌<◌}
use mathlib.Core.Path.{◌≡◌}
use mathlib.Core.List.{List}
use native.Mathlib.Omega.{arith}
use lib.ListN.{length}
use borrow.Author.Tests.{le-leb, lt-leb}
use Rattle.fields.specs.Parts.{put}
use Rattle.delta_make.specs.Making.{stored_at}
use Rattle.delta_make.proofs.store.Goals as goal

no-room-1 : (at : ℕ) (op delta : List ℕ) → length delta < at → delta ≡ stored_at at op delta
unfolding stored_at
no-room-1 at op delta h =
    let g : length delta < at + length op = omega arith in
    rw (lt-leb (at + length op) (length delta) g)

no-room-2 : (at : ℕ) (op delta : List ℕ) → at ≤ length delta → length delta - at < length op → delta ≡ stored_at at op delta
unfolding stored_at
no-room-2 at op delta k h =
    let g : length delta < at + length op = omega arith in
    rw (lt-leb (at + length op) (length delta) g)

room : (at : ℕ) (op delta left : List ℕ) → at ≤ length delta → length op ≤ length delta - at → left ≡ put at op delta → left ≡ stored_at at op delta
unfolding stored_at
room at op delta left k h e =
    let g : at + length op ≤ length delta = omega arith in
    rw (le-leb (at + length op) (length delta) g) e

pub returns-then-delta-at : goal.returns-then-delta-at
returns-then-delta-at c =
    let a = c.args in no-room-1 a.at a.op.now a.delta.now c.if-delta-at.true

pub returns-then-delta-at-2 : goal.returns-then-delta-at-2
returns-then-delta-at-2 c =
    let a = c.args in
    no-room-2 a.at a.op.now a.delta.now c.if-delta-at.false c.if-delta-at-2.true

pub returns : goal.returns
returns c =
    let a = c.args in
    room a.at a.op.now a.delta.now _ c.if-delta-at.false c.if-delta-at-2.false c.copy_to.ensures
