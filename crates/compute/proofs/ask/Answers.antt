-- `compute::ask` meets its contract: the tests are those of the definition. Assumes nothing.
use mathlib.Core.Path.{◌≡◌, refl, sym, ◌∙◌}
use mathlib.Core.Bool.{true, false}
use lib.Dec.{eqb}
use borrow.Author.Tests.{eq-eqb, ne_eqb}
use Rattle.compute.specs.Asking.{mtu_fits, is_free}
use Rattle.compute.proofs.Calling.{asks}
use Rattle.compute.proofs.ask.Goals as goal

pub returns-then-ties-nodes : goal.returns-then-ties-nodes
returns-then-ties-nodes c =
    let fits : mtu_fits c.args.mtu ≡ true = sym c.mtu_fits.ensures ∙ c.if-mtu_fits.true in
    let free : let a = c.args in is_free a.place a.mtu a.room ≡ true = sym c.is_free.ensures ∙ c.if-is_free.true in
    let a = c.args in
    asks a.mtu a.place a.room a.ties a.nodes true true true (fits) (free) (eq-eqb a.ties a.nodes c.if-ties-nodes.true)

pub returns-then-is_free : goal.returns-then-is_free
returns-then-is_free c =
    let fits : mtu_fits c.args.mtu ≡ true = sym c.mtu_fits.ensures ∙ c.if-mtu_fits.true in
    let free : let a = c.args in is_free a.place a.mtu a.room ≡ true = sym c.is_free.ensures ∙ c.if-is_free.true in
    let a = c.args in
    asks a.mtu a.place a.room a.ties a.nodes true true false (fits) (free) (ne_eqb a.ties a.nodes c.if-ties-nodes.false)

pub returns-then-mtu_fits : goal.returns-then-mtu_fits
returns-then-mtu_fits c =
    let fits : mtu_fits c.args.mtu ≡ true = sym c.mtu_fits.ensures ∙ c.if-mtu_fits.true in
    let a = c.args in
    let none = sym c.is_free.ensures ∙ c.if-is_free.false in
    asks a.mtu a.place a.room a.ties a.nodes true false (eqb a.ties a.nodes) (fits) none refl

pub returns : goal.returns
returns c =
    let a = c.args in
    let none = sym c.mtu_fits.ensures ∙ c.if-mtu_fits.false in
    asks a.mtu a.place a.room a.ties a.nodes false (is_free a.place a.mtu a.room) (eqb a.ties a.nodes) none refl refl
