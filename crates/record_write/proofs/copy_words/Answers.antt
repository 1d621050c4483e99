-- `record_write::copy_words` meets its contract: so many bytes are copied, a word more each turn. Assumes nothing.
use Prim.Native.Nat.{ℕ, ◌+◌, ◌*◌, ◌≤◌}
use mathlib.Core.Path.{◌∙◌, ◌≡◌, ap}
use native.Mathlib.Omega.{arith}
use Rattle.fields.proofs.Numbers.{at-bytes}
use Rattle.fields.specs.Numbers.{bytes_of}
use Rattle.fields.specs.Parts.{part, put}
use Rattle.record_write.proofs.Words.{next_word, none-copied}
use Rattle.record_write.proofs.copy_words.Goals as goal

pub loop-i-init : goal.loop-i-init
loop-i-init c =
    let a = c.args in none-copied a.at a.start a.src.now a.s.now

pub loop-i-preserved : goal.loop-i-preserved
loop-i-preserved c =
    let w = c.loop-i in
    let a = c.args in
    let at : ℕ = 8 * w.i in
    let next : at + 8 ≡ 8 * (w.i + 1) = omega arith in
    let room : at + 8 ≤ a.n + 7 = omega (arith, c.loop-i-test.true) in
    c.write_u64.ensures
    ∙ ap (λ (v : ℕ). put (a.at + at) (bytes_of 8 v) w.s) c.read_u64.ensures
    ∙ next_word a.at a.start at a.src.now a.s.now w.s (at-bytes a.src.now (λ k. (c.shared_slice_known-1.given k).fits))
    (omega (arith, room, c.requires.1)) (omega (arith, room, c.requires.0)) w.invariant
    ∙ ap (λ (k : ℕ). put a.at (part a.start k a.src.now) a.s.now) next
