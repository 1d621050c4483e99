-- The number and the values that stand for what a digest was read as: 0, how many nodes it tells of and where the rest begins, or the refusal's number;
-- then the eight places, four numbers each.
use Rattle.std.specs.Prelude.{ℕ, List, [], ◌∷◌, Err, Ok, Result}
use Rattle.rules.specs.Answers.{Told, accepted, refused}
use Rattle.digest_read.specs.declared.NodeDigest.{NodeDigest as Place}
use Rattle.digest_read.specs.declared.DigestRead.{DigestRead}
use Rattle.rules.specs.declared.Refusal.{Refusal}
use Rattle.digest_read.specs.declared.Digest.{Digest}

-- number, heartbeat, last_gc and max of each place
unfoldable pub place_values : (places : List Place) → List ℕ
place_values [] = []
place_values (p ∷ ps) = p.number ∷ p.heartbeat.0 ∷ p.last_gc ∷ p.max ∷ place_values ps

abbrev pub answer_told : (answer : Result DigestRead Refusal) (places : List Place) → Told
answer_told (Ok d) ps = accepted (d.count ∷ d.rest ∷ place_values ps)
answer_told (Err r) ps = refused r (place_values ps)

unfoldable pub digest_told : (digest : Digest) → Told
digest_told d = answer_told d.read d.entries
