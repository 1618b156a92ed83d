use Rattle.std.proofs.Common.{◌≡◌, ap, map, subst, string_bytes}
use Rattle.std.proofs.lemmas.Result.{IfOk-weaker}
use Rattle.clap.specs.Words.{App, FailsBy, HasMatchesOf, app_of, fault_of, found_of, is_simple, is_simple_and_free, matches_of, rows_of}
use Rattle.arguments.proofs.arguments.matched.Goals as goal

pub returns-clause-rows : goal.returns-clause-rows
returns-clause-rows c =
    IfOk-weaker c.try_get_matches_from.result _ _
    (λ m (has : HasMatchesOf (app_of c.in_ok-command.command) (map string_bytes c.args.words.now) m).
    subst (λ (app : App). rows_of (found_of m) ≡ matches_of app (map string_bytes c.args.words.now)) c.in_ok-command.ensures
    (has (ap is_simple c.in_ok-command.ensures)).0) c.try_get_matches_from.ensures.matches

pub returns-clause-parsed : goal.returns-clause-parsed
returns-clause-parsed c =
    IfOk-weaker c.try_get_matches_from.result _ _ (λ m p. (c.in_ok-command.command, c.in_ok-command.ensures, p)) c.try_get_matches_from.ensures.parsed

pub returns-clause-kinds : goal.returns-clause-kinds
returns-clause-kinds c =
    subst (λ (app : App). FailsBy (fault_of app (map string_bytes c.args.words.now)) c.try_get_matches_from.result) c.in_ok-command.ensures
    (c.try_get_matches_from.ensures.kinds (ap is_simple_and_free c.in_ok-command.ensures))
