-- `removal::raise_last_gc` meets its contract: the larger of the two numbers that were read is written. Assumes nothing.
use Prim.Native.Nat.{ℕ, ◌+◌, ◌<◌, max}
use mathlib.Core.Path.{◌≡◌, ap, ap₂, sym, ◌∙◌}
use mathlib.Core.List.{List}
use native.Mathlib.Omega.{arith}
use Rattle.fields.specs.Numbers.{nat_of}
use Rattle.fields.specs.Parts.{part}
use Rattle.fields.specs.Widths.{offset}
use Rattle.rules.specs.Layout.{rec_place, rec_widths, node_widths, encode_node, decode_node}
use Rattle.table.specs.Tests.{count_of}
use Rattle.table.specs.Fits.{LaidNode}
use Rattle.table.specs.Changes.{with_gc}
use Rattle.table.proofs.Places.{rec_at, version-at}
use Rattle.removal.proofs.raise_last_gc.Goals as goal

-- what is to be written, by what was read
raised : (b : List ℕ) → LaidNode b → (j : ℕ) → j < count_of b → (held version g : ℕ) → held ≡ nat_of (part (offset node_widths 3) 8 b) → version ≡ nat_of (part (rec_place j + offset rec_widths 4) 8 b)
    → g ≡ max held version → g ≡ max (decode_node b).node.last_gc (rec_at j b).kv.version
unfolding decode_node
raised b o j h held version g e f q = q ∙ ap₂ max e (f ∙ sym (version-at j b o.long (omega (arith, o.few))))

pub returns : goal.returns
returns c =
    let b : List ℕ = c.args.node.now in
    c.set_last_gc.ensures
    ∙ ap (λ (g : ℕ). encode_node (with_gc g (decode_node b)))
    (raised b c.requires.0 c.args.j c.requires.1 c.read_u64-held.result c.read_u64-version.result c.max.result c.read_u64-held.ensures
    (c.read_u64-version.ensures ∙ ap (λ (at : ℕ). nat_of (part (at + offset rec_widths 4) 8 b)) c.record_place.ensures) c.max.ensures)
