-- What a source gave to readings at places, and what is known of it then.
-- To be believed.
use Rattle.std.specs.Prelude.{◌≡◌, ℕ, ℤ, ◌+◌, ◌≤◌, ◌&&◌, Bool, nat_eq, List, [], ◌∷◌, ◌++◌, length, take, drop, Option, None, Some, IfSome}
use Rattle.std.specs.Cmp.Lexicographic.{pointwise}
use Rattle.std.specs.Option.{option_eq}
use Rattle.std.specs.Ordering.{int_eq}
use Rattle.std.specs.Cmp.Derive.{both_true}
use Rattle.std.proofs.Common.{arith, refl, sym, ap, ap₂, ◌∙◌}
use Rattle.std.proofs.Math.Seq.{drop-append_seam, take-add, take-append_seam}
use Rattle.std.proofs.lemmas.Bool.{and_parts}
use Rattle.std.proofs.lemmas.Cmp.{int_eq_equiv}
use Rattle.std.proofs.lemmas.Bool.Decides.{Decides-int_eq}
use Rattle.std.proofs.lemmas.List.{drop-drop, drop-take, length-append, take-take}
use Rattle.base.proofs.Exact.{IsExact, exact_list, exact_nat, exact_option}
use Rattle.block_scan.specs.declared.block_source.BlockSource.{Ghosts as BlockSourceOf}
use Rattle.day_file.specs.Sources.{IsSourceFault, Reading}
use Rattle.day_file.specs.declared.source_fault.SourceFault.{SourceFault}

-- S is sources, and `device` the members of their `BlockSource`: `device.GaveAt` says which bytes a source gave to
-- readings from a place on, `device.EndsAt` that a reading at a place found none there, and `device.FailsAt` that one
-- failed.
module _ {S : Type 0} (device : BlockSourceOf S) where
  -- readings gave these bytes from the source's start on, no more than the limit, and one found no byte after them
  pub record GaveWhole (limit : ℕ) (source : S) (day : List ℕ) : Type 0 where
    pub gave : device.GaveAt source 0 day
    pub ended : device.EndsAt source (length day)
    pub within : length day ≤ limit

-- what is known of a source S that is read at places. `all` says of bytes that readings gave them from its start up
-- to where one found no byte, within the limit; `longer`, that one gave a byte at the limit; `failed`, that one
-- failed at some place. It is cut into no morsels, so they are never too many (`too_many` never holds), and any bytes
-- are `answerable`. No reading changes it, so `some` and `untouched` say nothing.
abbrev pub of_blocks : {S : Type 0} → BlockSourceOf S → ℕ → S → Reading
of_blocks device limit source = record {
  all = GaveWhole device limit source;
  answerable = λ day. Unit {0};
  some = Unit {0};
  longer = (byte : ℕ) × device.GaveAt source limit (byte ∷ []);
  failed = (place : ℕ) × device.FailsAt source place;
  too_many = ⊥;
  untouched = Unit {0};
}

-- what each refusal of a source that is read at places says
abbrev pub IsBlocksFault : {S : Type 0} → BlockSourceOf S → S → ℕ → SourceFault → Type 0
IsBlocksFault device source limit = IsSourceFault (of_blocks device limit source)

-- ---- what a device gives at places, if it is known what it holds

-- these bytes are at this place, if it is known which are
abbrev pub KnownAt : Option (List ℕ) → ℕ → List ℕ → Type 0
KnownAt held place bytes = IfSome held (λ all. take (length bytes) (drop place all) ≡ bytes)

-- no byte is at this place, if that is known
abbrev pub KnownEnd : Option (List ℕ) → ℕ → Type 0
KnownEnd held place = IfSome held (λ all. length all ≤ place)

-- what contracts see of a file: the bytes that it holds, if that is known, and its descriptor, if it has one
pub record FileView : Type 0 where
  pub contents : Option (List ℕ)
  pub descriptor : Option ℤ

-- what is known of the bytes of both is the same, and so is their descriptor
abbrev pub is_same_file : FileView → FileView → Bool
is_same_file a b = option_eq (pointwise nat_eq) a.contents b.contents && option_eq int_eq a.descriptor b.descriptor

exact_contents : IsExact (option_eq (pointwise nat_eq))
exact_contents = exact_option (exact_list exact_nat)

exact_descriptor : IsExact (option_eq int_eq)
exact_descriptor = exact_option (record { itself = int_eq_equiv.refl; one = λ x y. (Decides-int_eq x y).0 })

pub exact_file : IsExact is_same_file
exact_file = record {
  itself = λ a. both_true (exact_contents.itself a.contents) (exact_descriptor.itself a.descriptor);
  one = λ a b h.
      let (p, q) = and_parts _ _ h in
      ap₂ (λ c d. record { contents = c; descriptor = d }) (exact_contents.one _ _ p) (exact_descriptor.one _ _ q);
}

pub known_nothing : (held : Option (List ℕ)) (place : ℕ) → KnownAt held place []
known_nothing None place = tt
known_nothing (Some all) place = refl

pub known_more : (held : Option (List ℕ)) (place : ℕ) (xs ys : List ℕ) → KnownAt held place xs
    → KnownAt held (place + length xs) ys → KnownAt held place (xs ++ ys)
known_more None place xs ys p q = tt
known_more (Some all) place xs ys p q =
    rw (length-append xs ys, take-add (length xs) (length ys) (drop place all), p, drop-drop (length xs) place all)
    (ap (λ l. xs ++ l) q)

pub known_front : (held : Option (List ℕ)) (place : ℕ) (xs ys : List ℕ) → KnownAt held place (xs ++ ys)
    → KnownAt held place xs
known_front None place xs ys p = tt
known_front (Some all) place xs ys p =
    sym (take-take (length xs) (length (xs ++ ys)) (drop place all) (omega (arith, length-append xs ys)))
    ∙ ap (take (length xs)) p ∙ take-append_seam xs ys

pub known_back : (held : Option (List ℕ)) (place : ℕ) (xs ys : List ℕ) → KnownAt held place (xs ++ ys)
    → KnownAt held (place + length xs) ys
known_back None place xs ys p = tt
known_back (Some all) place xs ys p =
    rw (← drop-drop (length xs) place all, ← drop-take (length xs) (length ys) (drop place all), ← length-append xs ys)
    (ap (drop (length xs)) p ∙ drop-append_seam xs ys)
