-- Demand 1: of every call, whatever is lent to it. Assumes nothing.
use Rattle.demand1.specs.Demand1.{Demand1}
use Rattle.demand1.proofs.Each.{each}
use Rattle.demand1.proofs.Kept.{obeying}
use Rattle.demand1.proofs.Nothing.{nothing}
use Rattle.demand1.proofs.Others.{no_other}
use Rattle.demand1.proofs.Memories.{remembered}

pub demand1 : Demand1
demand1 = record { refused_changes_nothing = λ k c. nothing c; tables_obey = λ k c. obeying c; no_other_number = λ k c. no_other c; each_number = each; memory_stays = λ k c. remembered c }
