-- Facts of a local beat on plain headers and numbers, which the proofs of the functions cite.
use Prim.Native.Nat.{◌+◌, ◌<◌, ◌^◌}
use mathlib.Core.Path.{◌≡◌, refl}
use mathlib.Core.Bool.{Bool, true, false}
use native.Mathlib.Omega.{arith}
use borrow.Author.Tests.{ltb-true}
use Rattle.fields.specs.Choice.{pick}
use Rattle.rules.specs.Sizes.{top}
use Rattle.rules.specs.Node.{beats}
use Rattle.rules.specs.declared.Heartbeat.{Heartbeat}
use Rattle.rules.specs.declared.Header.{Header}
use Rattle.heartbeat_header.specs.Headers.{beating, can_rise, risen_from, raised_header}

-- a heartbeat that can rise has room for one more
pub room : (held : Heartbeat) → can_rise held ≡ true → held.0 + 1 < 2 ^ 64
unfolding can_rise
room held e = omega (arith, ltb-true held.0 top e)

-- where the test says yes the heartbeat is one more, where it says no it is the same
pub rises : (held : Heartbeat) → can_rise held ≡ true → beats (held.0 + 1) ≡ risen_from held
rises held e = rw e

pub stays : (held : Heartbeat) → can_rise held ≡ false → held ≡ risen_from held
stays held e = rw e

-- the header with the risen heartbeat is the header after the beat, be it refused or not
pub beaten : (h : Header) → beating (risen_from h.heartbeat) h ≡ raised_header h
beaten h = go (can_rise h.heartbeat)
  where
    go : (t : Bool) → beating (pick t (beats (h.heartbeat.0 + 1)) h.heartbeat) h ≡ pick t (beating (beats (h.heartbeat.0 + 1)) h) h
    go true = refl
    go false = refl
