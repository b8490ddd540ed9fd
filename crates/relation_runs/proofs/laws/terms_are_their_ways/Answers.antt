use Rattle.std.proofs.Common.{[]}
use Rattle.relation_runs.specs.Leading.{OutcomeBelow}
use Rattle.relation_runs.proofs.TermOutcomes.{term_leads, leads_term}
use Rattle.relation_runs.specs.Passing.{PassesBelow, SpendsBelow}
use Rattle.relation_runs.proofs.Setting.{set_grows}
use Rattle.relation_runs.proofs.Scoped.{term_flat, flat_term, spent_term_flat, flat_spent_term}
use Rattle.relation_runs.proofs.laws.terms_are_their_ways.Goals as goal

pub returns-clause-passes : goal.returns-clause-passes
returns-clause-passes c = λ ways h nodes v t a s. (λ p. term_flat (PassesBelow ways h) nodes v t a s p, λ p. flat_term (PassesBelow ways h) nodes v t a s p)

pub returns-clause-spends : goal.returns-clause-spends
returns-clause-spends c = λ ways h nodes v t a s.
    (λ p. spent_term_flat (PassesBelow ways h) (SpendsBelow ways h) nodes v t a s p, λ p. flat_spent_term (PassesBelow ways h) (SpendsBelow ways h) nodes v t a s p)

pub returns-clause-grows : goal.returns-clause-grows
returns-clause-grows c = set_grows

pub returns-clause-leads : goal.returns-clause-leads
returns-clause-leads c = λ ways ends h zs t endings exit w. (
  λ p. let r = term_leads (PassesBelow ways h) (OutcomeBelow ways ends h) zs exit w t [] endings p in (r.place, r.way, r.ending, r.at, r.ends_at, r.leads),
  λ p. leads_term (PassesBelow ways h) (OutcomeBelow ways ends h) zs exit w t [] endings p.0 p.1 p.2 p.3 p.4 p.5,
)
