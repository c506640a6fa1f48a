-- The steps of a loop that reads the same thing again and again.
use Rattle.std.proofs.Common.{◌≡◌, List, [], ◌∷◌, ◌++◌, map, Ok, refl, sym, ap, ◌∙◌}
use Rattle.inform_grammar.specs.Rules.{Rule, TreeOf}
use Rattle.inform_grammar.specs.Plan.{done, one, many}
use Rattle.inform_grammar.specs.Reading.{Input, Answer}
use Rattle.inform_grammar.proofs.Binding.{and_then}
use Rattle.inform_parser.specs.Reading.{read}
use Rattle.inform_parser.proofs.Steps.{continued, read-one}

pub map_push : {A B : Type 0} (f : A → B) (xs : List A) (x : A) → map f (xs ++ x ∷ []) ≡ map f xs ++ f x ∷ []
map_push f [] x = refl
map_push f (y ∷ ys) x = ap (λ zs. f y ∷ zs) (map_push f ys x)

-- where one more is read, what is read from there on stays
pub goes_on : {T : Type 0} (r : Rule) (view : T → TreeOf r) (found items : List T) (x : T) (s after : Input) (total : Answer (List (TreeOf r)))
    → read (many r (map view found) done) s ≡ read (one r (λ x. many r (map view found ++ x ∷ []) done)) s
    → items ≡ found ++ x ∷ [] → read (one r done) s ≡ Ok (view x, after) → read (many r (map view found) done) s ≡ total
    → read (many r (map view items) done) after ≡ total
goes_on r view found items x s after total more push here same =
    ap (λ items. read (many r (map view items) done) after) push
    ∙ ap (λ front. read (many r front done) after) (map_push view found x)
    ∙ sym (ap (λ a. and_then a (continued (λ x. many r (map view found ++ x ∷ []) done))) here)
    ∙ sym (read-one r (λ x. many r (map view found ++ x ∷ []) done) s) ∙ sym more ∙ same

-- the same where what is found is its own tree
pub goes_on_same : (r : Rule) (found items : List (TreeOf r)) (x : TreeOf r) (s after : Input) (total : Answer (List (TreeOf r)))
    → read (many r found done) s ≡ read (one r (λ x. many r (found ++ x ∷ []) done)) s
    → items ≡ found ++ x ∷ [] → read (one r done) s ≡ Ok (x, after) → read (many r found done) s ≡ total
    → read (many r items done) after ≡ total
goes_on_same r found items x s after total more push here same =
    ap (λ items. read (many r items done) after) push
    ∙ sym (ap (λ a. and_then a (continued (λ x. many r (found ++ x ∷ []) done))) here)
    ∙ sym (read-one r (λ x. many r (found ++ x ∷ []) done) s) ∙ sym more ∙ same
