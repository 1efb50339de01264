use Rattle.std.proofs.Common.{ap, refl}
use Rattle.block_graph.proofs.{FollowsBlocks.{brace_at, goes_on, line_at, statement_inside}, FollowsPlaces.{goes_somewhere, goes_to_one}}
use Rattle.block_graph.proofs.laws.blocks_follow.Goals as goal

pub returns-clause-leads : goal.returns-clause-leads
returns-clause-leads c = λ s body n xs w choice q goes. goes_on s body n goes

pub returns-clause-some : goal.returns-clause-some
returns-clause-some c = λ body xs next r w choice. goes_somewhere r w choice

pub returns-clause-one : goal.returns-clause-one
returns-clause-one c = λ body xs w choice p q a b. goes_to_one a b

pub returns-clause-inside : goal.returns-clause-inside
returns-clause-inside c = λ body xs next r w. statement_inside r w

pub returns-clause-lines : goal.returns-clause-lines
returns-clause-lines c = λ s body n xs next r w. line_at s body n r w

pub returns-clause-closes : goal.returns-clause-closes
returns-clause-closes c = λ s body n. (ap (λ x. x.kind) (brace_at s body n), ap (λ x. x.line) (brace_at s body n))

pub returns-clause-worked_case : goal.returns-clause-worked_case
returns-clause-worked_case c = λ s. refl
