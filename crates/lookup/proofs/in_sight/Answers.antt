-- `lookup::in_sight` meets its contract: 1, 19, or what the search for the key says of the records that the party sees. Assumes nothing.
use Prim.Native.Nat.{ℕ, ◌-◌, ◌≤◌}
use mathlib.Core.Path.{◌≡◌, ap, sym, subst, ◌∙◌}
use mathlib.Core.Bool.{true}
use Rattle.rules.specs.Party.{sees}
use Rattle.table.specs.Tests.{recs_in}
use Rattle.table.proofs.Places.{rec_at}
use Rattle.table_read.specs.Find.{find_key}
use Rattle.table_read.specs.declared.Place.TheVariants.{At}
use Rattle.table_read.proofs.Searched.{rec-in}
use Rattle.own_rows.proofs.Keys.{own_behind}
use Rattle.lookup.specs.Lookup.{found_rec}
use Rattle.lookup.proofs.Seen.{long-first, other-first, named-finds, own_value, no-own-value}
use Rattle.lookup.proofs.in_sight.Goals as goal

pub returns-then-key-gt-KEY : goal.returns-then-key-gt-KEY
returns-then-key-gt-KEY c =
    let a = c.args in long-first a.profile a.party a.key.now a.start _ c.if-key-gt-KEY.true

pub in_record-requires : goal.in_record-requires
in_record-requires c =
    let named : let a = c.args in sees a.profile a.party a.key.now ≡ true = sym c.may_name.ensures ∙ c.if-not-may_name.false in
    let found : let a = c.args in find_key a.key.now (recs_in a.node.now) ≡ At c.in-At.j = sym c.search_key.ensures ∙ c.in-At.is in
    let a = c.args in
    let j = c.in-At.j in (
      c.requires.0,
      c.requires.3,
      subst (λ (x : ℕ). x ≤ j) (sym c.low_of.ensures)
          (own_behind a.profile a.party a.node.now c.requires.1 c.requires.2 a.key.now (named) j (found)),
      rec-in a.node.now a.key.now j (found),
    )

pub returns-in-At : goal.returns-in-At
returns-in-At c =
    let named : let a = c.args in sees a.profile a.party a.key.now ≡ true = sym c.may_name.ensures ∙ c.if-not-may_name.false in
    let found : let a = c.args in find_key a.key.now (recs_in a.node.now) ≡ At c.in-At.j = sym c.search_key.ensures ∙ c.in-At.is in
    let a = c.args in
    let j = c.in-At.j in
    named-finds a.profile a.party a.key.now a.start _ c.if-key-gt-KEY.false c.may_name.ensures c.if-not-may_name.false _
    (c.in_record.ensures
    ∙ ap (λ (x : ℕ). found_rec a.start (j - x) (rec_at j a.node.now)) c.low_of.ensures
    ∙ own_value a.profile a.party a.key.now a.node.now a.start c.requires.1 c.requires.2 (named) j (found))

pub returns-in-Free : goal.returns-in-Free
returns-in-Free c =
    let named : let a = c.args in sees a.profile a.party a.key.now ≡ true = sym c.may_name.ensures ∙ c.if-not-may_name.false in
    let a = c.args in
    named-finds a.profile a.party a.key.now a.start _ c.if-key-gt-KEY.false c.may_name.ensures c.if-not-may_name.false _
    (no-own-value a.profile a.party a.key.now a.node.now a.start c.requires.1 c.requires.2 (named) _
    (sym c.search_key.ensures ∙ c.in-Free.is))

pub returns-then-not-may_name : goal.returns-then-not-may_name
returns-then-not-may_name c =
    let a = c.args in
    other-first a.profile a.party a.key.now a.start _ c.if-key-gt-KEY.false c.may_name.ensures c.if-not-may_name.true
