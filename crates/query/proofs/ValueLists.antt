-- Lists of symbols and of kinds: each has a part, and of kinds a kind.
use Rattle.std.proofs.Common.{◌≡◌, ◌==◌, ℕ, true, List, length, nat_lt, arith, append-nil, lt-ltb, Bool, false, cond, [], ◌∷◌, Some, subst, eqb}
use Rattle.std.proofs.lemmas.List.Folds.{list_all-append}
use Rattle.std.proofs.lemmas.List.Splits.{length-slice_split}
use Rattle.query.specs.Words.{split_by}
use Rattle.std.specs.List.{list_all, onto_first}
use Rattle.std.proofs.lemmas.Bool.{and_parts}
use Rattle.std.proofs.lemmas.Option.{cond_some}
use Rattle.query.specs.Values.{is_kind, letters_of, kinds_of}
use Rattle.meaning.specs.Meaning.{Kinds, has_some}

-- a text has a part
pub has_part : (separator : ℕ) (text : List ℕ) → nat_lt 0 (length (split_by separator text)) ≡ true
has_part separator text = lt-ltb _ _ (omega (arith, length-slice_split (λ byte. byte == separator) text))

pub ruleset lists = (has_part, list_all-append, append-nil)

-- ---- a list of kinds has a kind

-- a kind's first byte is a letter
first_letter : (byte : ℕ) (bytes part : List ℕ) → is_kind (byte ∷ part) ≡ true → has_some (letters_of (byte ∷ bytes)) ≡ true
first_letter byte bytes part h = grind arith

list_has_letter : (bytes : List ℕ) → list_all is_kind (split_by 44 bytes) ≡ true → has_some (letters_of bytes) ≡ true
list_has_letter [] h = absurd (cc)
list_has_letter (byte ∷ bytes) h = go (eqb byte 44) (split_by 44 bytes) h
  where
    go : (b : Bool) (rest : List (List ℕ)) → list_all is_kind (cond b ([] ∷ rest) (onto_first byte rest)) ≡ true
        → has_some (letters_of (byte ∷ bytes)) ≡ true
    go true rest h = absurd (cc)
    go false [] h = first_letter byte bytes [] (and_parts _ _ h).0
    go false (part ∷ more) h = first_letter byte bytes part (and_parts _ _ h).0

pub some_kind : (bytes : List ℕ) (some : Kinds) → kinds_of bytes ≡ Some some → has_some some ≡ true
unfolding kinds_of
some_kind bytes some e =
    let h = cond_some _ (letters_of bytes) some e in subst (λ k. has_some k ≡ true) h.1 (list_has_letter bytes h.0)
