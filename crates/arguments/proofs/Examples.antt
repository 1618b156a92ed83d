-- What the program's command line makes of some words.
use Rattle.std.proofs.Common.{◌≡◌, refl, List, [], ◌∷◌, Some, codes, false, true}
use Rattle.clap.specs.Words.{Text, fault_of, first_of, matches_of, one_of}
use Rattle.clap.specs.declared.error.kind.ErrorKind.TheVariants as kind
use Rattle.clap.proofs.OnLiterals.{clap_on_literals}
use Rattle.arguments.specs.Arguments.{the_app, is_given}

abbrev plain : List Text
plain = codes "itch_bars" ∷ codes "day" ∷ codes "sales" ∷ []

abbrev full : List Text
full = codes "itch_bars" ∷ codes "--workers" ∷ codes "8" ∷ codes "day" ∷ codes "--morsel=64" ∷ codes "sales" ∷ codes "--partitions" ∷ codes "7"
    ∷ codes "--gatherers=3" ∷ []

file_and_query : (first_of (codes "FILE") (matches_of the_app plain) ≡ Some (codes "day"))
    × (first_of (codes "QUERY") (matches_of the_app plain) ≡ Some (codes "sales")) × (fault_of the_app plain ≡ [])
unfolding clap_on_literals
file_and_query = (refl, refl, refl)

defaults : (one_of (codes "workers") (matches_of the_app plain) ≡ Some (codes "4"))
    × (one_of (codes "morsel") (matches_of the_app plain) ≡ Some (codes "1048576"))
    × (one_of (codes "partitions") (matches_of the_app plain) ≡ Some (codes "64"))
    × (one_of (codes "gatherers") (matches_of the_app plain) ≡ Some (codes "1"))
unfolding clap_on_literals
defaults = (refl, refl, refl, refl)

given : (one_of (codes "workers") (matches_of the_app full) ≡ Some (codes "8")) × (one_of (codes "morsel") (matches_of the_app full) ≡ Some (codes "64"))
    × (one_of (codes "partitions") (matches_of the_app full) ≡ Some (codes "7"))
    × (one_of (codes "gatherers") (matches_of the_app full) ≡ Some (codes "3"))
    × (first_of (codes "QUERY") (matches_of the_app full) ≡ Some (codes "sales")) × (fault_of the_app full ≡ [])
unfolding clap_on_literals
given = (refl, refl, refl, refl, refl, refl)

morsel_is_given : (is_given (codes "morsel") (matches_of the_app plain) ≡ false)
    × (is_given (codes "morsel") (matches_of the_app full) ≡ true)
unfolding clap_on_literals
morsel_is_given = (refl, refl)

asks_for_help : fault_of the_app (codes "itch_bars" ∷ codes "--help" ∷ []) ≡ kind.DisplayHelp ∷ []
unfolding clap_on_literals
asks_for_help = refl

asks_for_the_version : (fault_of the_app (codes "itch_bars" ∷ codes "--version" ∷ []) ≡ kind.DisplayVersion ∷ [])
    × (fault_of the_app (codes "itch_bars" ∷ codes "-V" ∷ []) ≡ kind.DisplayVersion ∷ [])
unfolding clap_on_literals
asks_for_the_version = (refl, refl)

no_query : fault_of the_app (codes "itch_bars" ∷ codes "day" ∷ []) ≡ kind.MissingRequiredArgument ∷ []
unfolding clap_on_literals
no_query = refl

no_worker : fault_of the_app (codes "itch_bars" ∷ codes "day" ∷ codes "sales" ∷ codes "--workers" ∷ codes "0" ∷ []) ≡ kind.ValueValidation ∷ []
unfolding clap_on_literals
no_worker = refl
