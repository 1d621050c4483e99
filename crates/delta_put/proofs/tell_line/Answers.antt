-- `delta_put::tell_line` meets its contract: the line has room in the buffer, and stands at the front of it. Assumes nothing.
use Prim.Native.Nat.{ℕ, ◌+◌}
use mathlib.Core.Path.{◌≡◌, ap, ◌∙◌}
use mathlib.Core.List.{List}
use native.Mathlib.Omega.{arith}
use lib.ListN.{drop, length, length-append, replicate, take}
use lib.Seq.{take_at}
use Rattle.std.proofs.Common.{OnOk, subst}
use Rattle.std.specs.Io.KnownBytes.{Appends}
use Rattle.fields.specs.Parts.{put}
use Rattle.listing_text.specs.Texts.{TextFits}
use Rattle.listing_text.proofs.Texts.{decimal-long}
use Rattle.delta_make.specs.Making.{bad_line}
use Rattle.delta_put.proofs.tell_line.Goals as goal

room : (n : ℕ) → TextFits 0 (bad_line n) (replicate 46 0)
unfolding bad_line
room n = simp length-append (omega (arith, decimal-long n))

front-put : (text out : List ℕ) (k : ℕ) → k ≡ 0 + length text → take k (put 0 text out) ≡ text
unfolding put
front-put text out k e = take_at text (drop (0 + length text) out) k (omega (arith, e))

pub put_bad_line-n-requires : goal.put_bad_line-n-requires
put_bad_line-n-requires g c =
    room c.args.line

pub returns : goal.returns
returns g c =
    let line = c.put_bad_line-n in
    let same = c.front.ensures ∙ ap (take line.result) line.ensures.1 ∙ front-put (bad_line c.args.line) _ line.result line.ensures.0 in
    subst (λ (x : List ℕ). OnOk c.put.result (Appends (g.W.Write.contents c.args.out.now) (g.W.Write.contents c.put.new.out) x)) same c.put.ensures
