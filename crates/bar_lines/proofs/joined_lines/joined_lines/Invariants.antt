use Rattle.std.proofs.Common.{◌≡◌, List, [], ◌∷◌, ◌++◌, map, take}
use Rattle.time_and_sales.specs.Names.{names_by}
use Rattle.bar.specs.declared.bar.Bar.{Bar}
use Rattle.bars.specs.Bars.{IsUnionOf}
use Rattle.bars.specs.Steps.{bar_at}
use Rattle.bars.specs.Texts.{lines_text}
use Rattle.bar_lines.proofs.joined_lines.joined_lines.Given as goal

-- the bars so far are those whose lines are written and the current one
abbrev pub invariant-loop-i : goal.invariant-loop-i
invariant-loop-i l = record {
  done : List Bar;
  text : l.text.items ≡ lines_text (names_by l.names) done;
  union : IsUnionOf (take l.i (map bar_at l.sorted)) (done ++ l.current ∷ []);
  name : l.name ≡ names_by l.names l.current.locate;
}
