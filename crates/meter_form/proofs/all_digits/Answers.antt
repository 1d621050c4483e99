-- `meter_form::all_digits` meets its contract. Assumes nothing.
use Rattle.std.proofs.Common.{rules, tests}
use Rattle.std.proofs.lemmas.Iterator.{YieldsList-from_slice}
use Rattle.std.proofs.lemmas.Iterator.Search.{all_from_yields_List}
use mathlib.Core.Path.{◌∙◌}
use Rattle.rules.specs.Profile.{is_digit}
use Rattle.meter_form.proofs.Forms.{list_all-all}
use Rattle.meter_form.proofs.all_digits.Goals as goal

pub returns : goal.returns
returns c =
    let l = c.args.value.now in
    all_from_yields_List is_digit _ _ _ c.all.ensures.ran (YieldsList-from_slice l cc) (λ x b q k. search (rules, tests)) ∙ list_all-all is_digit l
