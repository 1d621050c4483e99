-- `listing_ops::put_line` meets its contract: by the kind of operation. Assumes nothing.
use Prim.Native.Nat.{ℕ}
use mathlib.Core.Path.{◌≡◌, sym, subst}
use mathlib.Core.List.{List}
use native.Mathlib.Omega.{arith}
use Rattle.fields.specs.Parts.{part}
use Rattle.fields.proofs.Lent.{seen}
use Rattle.rules.specs.declared.Status.{Status}
use Rattle.delta_op.specs.declared.Op.{Op}
use Rattle.delta_op.specs.declared.Op.TheVariants.{KeyValue}
use Rattle.delta_op.specs.Places.{op_of}
use Rattle.rules.specs.Listing.{op_line}
use Rattle.listing_text.specs.Texts.{TextFits}
use Rattle.listing_text.proofs.Texts.{Put}
use Rattle.listing_ops.specs.Lines.{record_line}
use Rattle.listing_ops.proofs.Lines.{inside, record-line}
use Rattle.listing_ops.proofs.put_line.Goals as goal

-- a record's line has room, and was put
module _ (l : List ℕ) where
  record-room : (out : List ℕ) (at k n v m ver : ℕ) (st : Status) (o : Op) (key value : List ℕ) → o ≡ KeyValue k n v m ver st → key ≡ part k n l
      → value ≡ part v m l → TextFits at (op_line (op_of l o)) out → TextFits at (record_line ver st key value) out
  record-room out at k n v m ver st o key value e p q h =
      subst (λ (t : List ℕ). TextFits at t out) (sym (record-line l k n v m ver st o key value e p q)) h

  record-put : (out left : List ℕ) (at r k n v m ver : ℕ) (st : Status) (o : Op) (key value : List ℕ) → o ≡ KeyValue k n v m ver st → key ≡ part k n l
      → value ≡ part v m l → Put at (record_line ver st key value) out left r → Put at (op_line (op_of l o)) out left r
  record-put out left at r k n v m ver st o key value e p q w =
      subst (λ (t : List ℕ). Put at t out left r) (record-line l k n v m ver st o key value e p q) w

pub put_node-requires : goal.put_node-requires
put_node-requires c =
    let Fits : Op → Type 0 = λ (o : Op). TextFits c.args.at (op_line (op_of c.args.delta.now o)) c.args.out.now in
    subst (Fits) c.in-Node.is c.requires.1

pub overflow_add-key : goal.overflow_add-key
overflow_add-key c =
    omega (arith, (inside _ _ _ _ _ _ _ _ c.in-KeyValue.is c.requires.0).0, c.well_formed.0)

pub slice_bounds-key-end : goal.slice_bounds-key-end
slice_bounds-key-end c =
    (inside _ _ _ _ _ _ _ _ c.in-KeyValue.is c.requires.0).0

pub overflow_add-value : goal.overflow_add-value
overflow_add-value c =
    omega (arith, (inside _ _ _ _ _ _ _ _ c.in-KeyValue.is c.requires.0).1, c.well_formed.0)

pub slice_bounds-value-end : goal.slice_bounds-value-end
slice_bounds-value-end c =
    (inside _ _ _ _ _ _ _ _ c.in-KeyValue.is c.requires.0).1

pub put_key_value-requires : goal.put_key_value-requires
put_key_value-requires c =
    record-room c.args.delta.now c.args.out.now c.args.at _ _ _ _ _ _ _ _ _ c.in-KeyValue.is (seen _ _ _) (seen _ _ _) c.requires.1

pub put_set_max_version-requires : goal.put_set_max_version-requires
put_set_max_version-requires c =
    let Fits : Op → Type 0 = λ (o : Op). TextFits c.args.at (op_line (op_of c.args.delta.now o)) c.args.out.now in
    subst (Fits) c.in-SetMaxVersion.is c.requires.1

pub returns-in-Node : goal.returns-in-Node
returns-in-Node c =
    let Stands : List ℕ → ℕ → Op → Type 0 = λ (left : List ℕ) (r : ℕ) (o : Op). Put c.args.at (op_line (op_of c.args.delta.now o)) c.args.out.now left r in
    let call = c.put_node in
    subst (Stands call.new.out call.result) (sym c.in-Node.is) call.ensures

pub returns-in-KeyValue : goal.returns-in-KeyValue
returns-in-KeyValue c =
    record-put c.args.delta.now _ _ c.args.at _ _ _ _ _ _ _ _ _ _ c.in-KeyValue.is (seen _ _ _) (seen _ _ _)
    c.put_key_value.ensures

pub returns-in-SetMaxVersion : goal.returns-in-SetMaxVersion
returns-in-SetMaxVersion c =
    let Stands : List ℕ → ℕ → Op → Type 0 = λ (left : List ℕ) (r : ℕ) (o : Op). Put c.args.at (op_line (op_of c.args.delta.now o)) c.args.out.now left r in
    let call = c.put_set_max_version in
    subst (Stands call.new.out call.result) (sym c.in-SetMaxVersion.is) call.ensures
