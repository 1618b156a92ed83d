use Rattle.std.proofs.Common.{◌≡◌, None, Option, ℕ, replicate, arith}
use Rattle.std.proofs.lemmas.Grind.{common_steps}
use Rattle.bar_lines.proofs.Grids.{none_in, nothing_in}
use Rattle.bar_lines.proofs.bar_grid.BarGrid.empty.Goals as goal

pub returns : goal.returns
returns c =
    let empty : Option ℕ = None in
    let all : c.resize.new.self.items ≡ replicate c.args.slots empty = grind (arith, common_steps) in
    rw all (none_in _ c.args.slots)

pub invariant_of-result : goal.invariant_of-result
invariant_of-result c =
    let empty : Option ℕ = None in
    let all : c.resize.new.self.items ≡ replicate c.args.slots empty = grind (arith, common_steps) in
    rw all (nothing_in c.args.grid _ c.args.slots)
