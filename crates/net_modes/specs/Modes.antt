-- Hubs whose mode changes within a run, from fenced to guarded or back, at any moment: the byte of the mode is set in the bytes of the hub's table, and in those that it saved, and all else stays. No call does it. All
-- else is as in a net of lent bytes (net: LentNet). The theorem is in proofs/Modes.
use Rattle.std.specs.Prelude.{ℕ, Bool, List, [], ◌∷◌, eqb}
use Rattle.fields.specs.Numbers.{Bytes}
use Rattle.fields.specs.Choice.{pick}
use Rattle.rules.specs.Apply.{ways_in}
use Rattle.rules.specs.Profile.{Kind, kind}
use Rattle.rules.specs.Whole.{Whole, decode_whole, encode_whole}
use Rattle.rules.specs.declared.Mode.{Mode}
use Rattle.net.specs.Net.{Event}
use Rattle.net.specs.LentNet.{LentNet, lent_begin, lent_happen}

-- the kind of each hub's table now, and the net
pub record Moded : Type 0 where
  pub kinds : ℕ → Kind
  pub net : LentNet

pub data Step : Type 0 where
  Goes : Event → Step
  -- a hub gets another mode
  Setting : ℕ → Mode → Step

-- what stands in a table's bytes, in this mode
abbrev pub whole_in : (mode : Mode) (table : Bytes) → Whole
whole_in m l = record { kind = kind m (decode_whole l).kind.profile; memory = (decode_whole l).memory; table = (decode_whole l).table }

abbrev pub in_mode : (mode : Mode) (table : Bytes) → Bytes
in_mode m l = encode_whole (whole_in m l)

unfoldable pub all_in_mode : (mode : Mode) (tables : List Bytes) → List Bytes
all_in_mode m [] = []
all_in_mode m (l ∷ ls) = in_mode m l ∷ all_in_mode m ls

abbrev pub kinds_then : (hub : ℕ) (mode : Mode) (kinds : ℕ → Kind) (hubs : ℕ) → Kind
kinds_then x m kinds y = pick (eqb y x) (kind m (kinds y).profile) (kinds y)

abbrev pub moded : (hub : ℕ) (mode : Mode) (v : Moded) → Moded
moded x m v =
    record {
      kinds = kinds_then x m v.kinds;
      net =
          record {
            hubs = λ y. pick (eqb y x) (in_mode m (v.net.hubs y)) (v.net.hubs y);
            given = v.net.given;
            sent = v.net.sent;
            saved = λ y. pick (eqb y x) (all_in_mode m (v.net.saved y)) (v.net.saved y);
          };
    }

-- a mode in which deltas may come late; plain is none
abbrev pub may_set : (mode : Mode) (k : Kind) → Bool
may_set m k = (ways_in (kind m k.profile)).late

unfoldable pub step : (owner : ℕ → ℕ) (s : Step) (v : Moded) → Moded
step owner (Goes e) v = record { kinds = v.kinds; net = lent_happen owner e v.net }
step owner (Setting x m) v = pick (may_set m (v.kinds x)) (moded x m v) v

abbrev pub moded_start : (kinds : ℕ → Kind) → Moded
moded_start kinds = record { kinds = kinds; net = lent_begin kinds }

unfoldable pub steps : (owner : ℕ → ℕ) (ss : List Step) (v : Moded) → Moded
steps owner [] v = v
steps owner (s ∷ ss) v = steps owner ss (step owner s v)
