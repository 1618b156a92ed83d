-- What a link may be given.
-- To be believed of a crate used by itself.
use Rattle.std.specs.Prelude.{List}

-- it is a total of some admissible list of inputs
abbrev pub IsTotal : {A T : Type 0} → (List A → T → Type 0) → (List A → Type 0) → T → Type 0
IsTotal {A} IsTotalOf IsAdmissible total = (inputs : List A) × IsAdmissible inputs × IsTotalOf inputs total
