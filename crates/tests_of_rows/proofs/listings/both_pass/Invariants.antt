use Rattle.tests_of_rows.proofs.listings.both_pass.Given as goal

-- the sales are those of the listing of all
abbrev pub ghosts-lines_pass : goal.ghosts-lines_pass
ghosts-lines_pass g a = record { sales = a.all.now }
