use Rattle.runs.proofs.calls.run_blocks.made_in_blocks.Given as goal

-- the name is that of the watch that is handed over
abbrev pub ghosts-outcome_of_named : goal.ghosts-outcome_of_named
ghosts-outcome_of_named g a = record { book = a.watch.book }
