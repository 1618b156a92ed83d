use Rattle.tests_of_rows.proofs.lines_of_bars.both_pass.Given as goal

-- the bars are those of the table of all
abbrev pub ghosts-lines_pass : goal.ghosts-lines_pass
ghosts-lines_pass g a = record { bars = a.all.now }
