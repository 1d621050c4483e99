-- `party_form::is_someones` meets its contract. Assumes nothing.
use mathlib.Core.Bool.{Bool, true}
use mathlib.Core.Path.{◌∙◌, ap, sym}
use Rattle.fields.specs.Choice.{pick}
use Rattle.rules.specs.Party.{own}
use Rattle.rules.specs.declared.Party.TheVariants.{Building}
use Rattle.party_form.proofs.is_someones.Goals as goal

pub returns-then-owns : goal.returns-then-owns
returns-then-owns c =
    let k = c.args.key.now in
    ap (λ (b : Bool). pick b true (own Building k)) (sym c.if-owns.true ∙ c.owns.ensures)

pub returns : goal.returns
returns c =
    let k = c.args.key.now in
    c.owns-2.ensures ∙ ap (λ (b : Bool). pick b true (own Building k)) (sym c.if-owns.false ∙ c.owns.ensures)
