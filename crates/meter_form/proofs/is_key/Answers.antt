-- `meter_form::is_key` meets its contract. Assumes nothing.
use Rattle.std.proofs.Common.{◌≡◌, arith, rules, tests}
use Rattle.std.proofs.lemmas.Iterator.{YieldsList-from_slice}
use Rattle.std.proofs.lemmas.Iterator.Search.{all_from_yields_List}
use Rattle.std.proofs.lemmas.Bool.Decides.{nat_tests}
use mathlib.Core.Path.{◌∙◌}
use Rattle.fields.specs.Choice.{all}
use Rattle.rules.specs.Profile.{is_key_byte, meter_key}
use Rattle.meter_form.proofs.Forms.{list_all-all}
use Rattle.meter_form.proofs.is_key.Goals as goal

pub returns-then-not-is_empty : goal.returns-then-not-is_empty
unfolding meter_key
returns-then-not-is_empty c =
    let l = c.args.key.now in
    let e : c.all.result ≡ all is_key_byte l = all_from_yields_List is_key_byte _ _ c.all.result c.all.ensures.ran (YieldsList-from_slice l cc) (λ x b q k. search (rules, tests)) ∙ list_all-all is_key_byte l in
    grind (arith, nat_tests)
