-- `compute_write::write_max` meets its contract: not due, written, or dropped. Assumes nothing.
use Prim.Native.Nat.{ℕ}
use mathlib.Core.Path.{subst}
use Rattle.fields.specs.Numbers.{Bytes}
use Rattle.rules.specs.Given.{Gives}
use Rattle.rules.specs.Delta.{SetMaxVersionOp}
use Rattle.rules.specs.Layout.{decode}
use Rattle.table_read.specs.Find.{entry_at}
use Rattle.table_read.proofs.Located.{held}
use Rattle.delta_write.specs.Written.{write_op}
use Rattle.compute_write.proofs.Steps.{not-due, max-sent, max-left}
use Rattle.compute_write.proofs.write_max.Goals as goal

pub returns-then-stale-ne0 : goal.returns-then-stale-ne0
returns-then-stale-ne0 c =
    let own-max : ℕ = (entry_at (decode c.args.table.now) c.args.p).node.max in
    not-due c.args.stale (own-max) c.args.datagram.now c.if-stale-ne0.true

pub max_at-requires : goal.max_at-requires
max_at-requires c =
    held c.args.table.now c.requires.0 c.args.p c.requires.1

pub returns-in-Some : goal.returns-in-Some
returns-in-Some c =
    let own-max : ℕ = (entry_at (decode c.args.table.now) c.args.p).node.max in
    let wrote : let call = c.write_set_max_version in
    Gives (write_op (SetMaxVersionOp (own-max)) c.args.datagram.now) call.result call.new.datagram = let call = c.write_set_max_version in
    let d : Bytes = c.args.datagram.now in
    subst (λ (m : ℕ). Gives (write_op (SetMaxVersionOp m) d) call.result call.new.datagram) c.max_at.ensures call.ensures in
    max-sent c.args.stale (own-max) c.args.datagram.now _ _ c.if-stale-ne0.false (wrote) _ c.in-Some.is

pub returns-in-None : goal.returns-in-None
returns-in-None c =
    let own-max : ℕ = (entry_at (decode c.args.table.now) c.args.p).node.max in
    let wrote : let call = c.write_set_max_version in
    Gives (write_op (SetMaxVersionOp (own-max)) c.args.datagram.now) call.result call.new.datagram = let call = c.write_set_max_version in
    let d : Bytes = c.args.datagram.now in
    subst (λ (m : ℕ). Gives (write_op (SetMaxVersionOp m) d) call.result call.new.datagram) c.max_at.ensures call.ensures in
    max-left c.args.stale (own-max) c.args.datagram.now _ _ c.if-stale-ne0.false (wrote) c.in-None.is
