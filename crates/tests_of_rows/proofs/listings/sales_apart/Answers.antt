use Rattle.std.proofs.Common.{rules}
use Rattle.std.specs.List.{IsDistinct}
use Rattle.tests_of_rows.proofs.listings.sales_apart.Goals as goal

pub returns-clause-one : goal.returns-clause-one
unfolding IsDistinct
returns-clause-one c = search rules

pub returns-clause-other : goal.returns-clause-other
unfolding IsDistinct
returns-clause-other c = search rules

pub returns-clause-both : goal.returns-clause-both
unfolding IsDistinct
returns-clause-both c = search rules

pub returns-clause-turned : goal.returns-clause-turned
unfolding IsDistinct
returns-clause-turned c = search rules
