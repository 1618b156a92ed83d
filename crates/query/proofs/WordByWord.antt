-- What words lead to, one word after another, as a parser takes them.
use Rattle.std.proofs.Common.{◌≡◌, ◌≢◌, ◌&&◌, List, [], ◌∷◌, refl, ap, ◌∙◌, arith, Err, codes}
use Rattle.std.proofs.lemmas.Bool.{or_right}
use Rattle.query.specs.Words.{IsLater, Word, reads_as, begins_list}
use Rattle.query.specs.Faults.{IsRefused, Next, QueryFault, OutOfMemory, ended, read_from, refused, step}

pub reads : (next : Next) (w : Word) (rest : List Word) → read_from next (w ∷ rest) ≡ read_from (step next w) rest
unfolding read_from
reads next w rest = refl

pub read_end : (next : Next) (ws : List Word) → ws ≡ [] → read_from next ws ≡ ended next
unfolding read_from
read_end next ws e = ap (read_from next) e

-- a fault stays
pub stays : (fault : QueryFault) (ws : List Word) → read_from (refused fault) ws ≡ Err fault
unfolding read_from step
stays fault [] = refl
stays fault (w ∷ ws) = stays fault ws

pub later_word : (ws rest : List Word) (w : Word) → ws ≡ w ∷ rest → IsLater ws rest
later_word ws rest w e =
    record { shorter = rw e (omega arith); listed = λ h. rw e (or_right (reads_as (codes "symbol") w && begins_list rest) _ h) }

pub later_twice : (ws rest last : List Word) → IsLater ws rest → IsLater rest last → IsLater ws last
later_twice ws rest last h g = record { shorter = omega arith; listed = λ i. h.listed (g.listed i) }

pub refused_here : (next : Next) (ws : List Word) (fault : QueryFault) → fault ≢ OutOfMemory → read_from next ws ≡ Err fault → IsRefused next ws fault
refused_here next ws fault other e = record { first = λ _. e; memory = λ is. absurd (other is) }

pub refused_later : (next then_next : Next) (ws rest : List Word) (fault : QueryFault) → read_from next ws ≡ read_from then_next rest
    → IsLater ws rest → IsRefused then_next rest fault → IsRefused next ws fault
refused_later next then_next ws rest fault e later h = record { first = λ other. e ∙ h.first other; memory = λ is. later.listed (h.memory is) }

pub ruleset reading = (reads, read_end, stays, later_word, later_twice)

pub ruleset refusing = (later_twice, refused_here, refused_later)
