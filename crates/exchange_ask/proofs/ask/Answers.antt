-- `exchange_ask::ask` meets its contract: 14 exactly where a table is not valid, the follower's first. Assumes nothing.
use mathlib.Core.Path.{◌∙◌, ap, sym, refl}
use mathlib.Core.Bool.{Bool}
use Rattle.rules.specs.Profile.{table_formed}
use Rattle.rules.specs.Whole.{decode_whole}
use Rattle.rules.specs.declared.Profile.{Profile}
use Rattle.table.proofs.Tables.{valid-laid}
use Rattle.exchange_ask.specs.Asking.{ready_on, rooms}
use Rattle.exchange_ask.proofs.Asking.{both-good, follower-bad, publisher-bad}
use Rattle.table.proofs.Wholes.{area-valid, whole_long}
use Rattle.table_check.proofs.Entry.{area-long}
use Rattle.exchange_ask.proofs.ask.Goals as goal

pub returns-then-not-check_table : goal.returns-then-not-check_table
returns-then-not-check_table c =
    let a = c.args in
    follower-bad a.edition a.unasked.now (rooms a.mtu a.ties a.digest a.delta a.answers) a.publisher.now a.follower.now
    (sym c.check_table.ensures ∙ c.if-not-check_table.true)

pub returns-then-not-check_table-2 : goal.returns-then-not-check_table-2
returns-then-not-check_table-2 c =
    let a = c.args in
    publisher-bad a.edition a.unasked.now (rooms a.mtu a.ties a.digest a.delta a.answers) a.publisher.now a.follower.now
    (sym c.check_table.ensures ∙ c.if-not-check_table.false) (sym c.check_table-2.ensures ∙ c.if-not-check_table-2.true)

pub profile_of-profile-requires : goal.profile_of-profile-requires
profile_of-profile-requires c =
    whole_long _ (sym c.check_table.ensures ∙ c.if-not-check_table.false)

pub forms_fit-formed-requires : goal.forms_fit-formed-requires
forms_fit-formed-requires c =
    sym c.check_table-2.ensures ∙ c.if-not-check_table-2.false

pub slice_bounds-ask_good-end : goal.slice_bounds-ask_good-end
slice_bounds-ask_good-end c =
    area-long _ refl (sym c.check_table-2.ensures ∙ c.if-not-check_table-2.false)

pub slice_bounds-ask_good-end-2 : goal.slice_bounds-ask_good-end-2
slice_bounds-ask_good-end-2 c =
    area-long _ refl (sym c.check_table.ensures ∙ c.if-not-check_table.false)

pub ask_good-requires : goal.ask_good-requires
ask_good-requires c = (
  valid-laid _ (area-valid _ (sym c.check_table-2.ensures ∙ c.if-not-check_table-2.false)),
  valid-laid _ (area-valid _ (sym c.check_table.ensures ∙ c.if-not-check_table.false)),
)

pub returns : goal.returns
returns c =
    let a = c.args in
    let u = (decode_whole a.publisher.now).table in
    let t = (decode_whole a.follower.now).table in
    let room = rooms a.mtu a.ties a.digest a.delta a.answers in
    c.ask_good.ensures
    ∙ ap (λ (x : Bool). ready_on a.edition a.unasked.now room c.profile_of-profile.result x u t) c.forms_fit-formed.ensures
    ∙ ap (λ (x : Profile). ready_on a.edition a.unasked.now room x (table_formed x u) u t) c.profile_of-profile.ensures
    ∙ both-good a.edition a.unasked.now room a.publisher.now a.follower.now (sym c.check_table.ensures ∙ c.if-not-check_table.false)
    (sym c.check_table-2.ensures ∙ c.if-not-check_table-2.false)
