-- What a C caller is told of the answers of `peers`: the number and the values (`..Told`), each in a field of its own. A value that there is not is 0.
use Rattle.rules.specs.Answers.{Told}
use Rattle.answers.specs.Shown.{some_of, value_at}
use Rattle.answers_peers.specs.declared.KevTold.{KevTold}
use Rattle.answers_peers.specs.declared.KevLeast.{KevLeast}
use Rattle.answers_peers.specs.declared.KevSeen.{KevSeen}

abbrev pub told_shown : (told : Told) → KevTold
told_shown t = record { number = t.number; need = t.need }

abbrev pub least_shown : (told : Told) → KevLeast
least_shown t = record { number = t.number; max = value_at 0 t.values }

abbrev pub seen_shown : (told : Told) → KevSeen
seen_shown t = record { number = t.number; found = some_of t.values; last_gc = value_at 0 t.values; max = value_at 1 t.values }
