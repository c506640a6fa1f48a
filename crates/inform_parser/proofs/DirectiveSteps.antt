-- The rules of directives, by what stands next.
use Rattle.std.proofs.Common.{◌≡◌, ℕ, true, false, List, [], ◌∷◌, ◌++◌, is_some, Ok, Err, refl, ◌∙◌}
use Rattle.inform_tree.specs.declared.values.Const.{Const}
use Rattle.inform_tree.specs.Programs as d
use Rattle.inform_tree.specs.Programs.{DirectiveTree}
use Rattle.inform_lexemes.specs.declared.symbols.Symbol.TheVariants.{Semicolon, LeftRound, LeftSquare}
use Rattle.inform_lexemes.specs.declared.keywords.Keyword.TheVariants as w
use Rattle.inform_lexemes.specs.Lexemes.{Lexeme, Word, Name, Sign, is_sign, is_word, is_name}
use Rattle.inform_grammar.specs.Faults.{Unexpected, fault}
use Rattle.inform_grammar.specs.Rules as r
use Rattle.inform_grammar.specs.Lexemes.{heads, name_in, any_lexeme}
use Rattle.inform_grammar.specs.ValueRules.{entry}
use Rattle.inform_grammar.specs.Plan.{Plan, done, refuse, next, look, ◌>>=◌, take, one, many}
use Rattle.inform_grammar.specs.Rule.{named, constant_after, global_after, array_after, routine_after, directive, local, rule}
use Rattle.inform_grammar.specs.Reading.{Input, input, step, reads, within_limit}
use Rattle.inform_grammar.proofs.Steps.{starts, many-no, many-yes, done-here}
use Rattle.inform_parser.specs.Glances.{first_glance}
use Rattle.inform_parser.specs.declared.stops.Stop.{Stop}
use Rattle.inform_parser.specs.Reading.{read, ReadsSome}
use Rattle.inform_parser.specs.Views.{name_of}
use Rattle.inform_parser.specs.Begins.{begins_entry, begins_directive}
use Rattle.inform_parser.specs.Nexts.{next_of, arrow_next}
use Rattle.inform_parser.proofs.InTurn.{only, made, same_some, stops_some, follows_some}

pub array_after_as : (s : Input) → read array_after s ≡ read (named (λ name. arrow_next >>= λ words. one r.Entry (λ x. many r.Entry (x ∷ []) (λ xs. take (is_sign Semicolon) (done (d.Array name words xs)))))) s
unfolding array_after arrow_next
array_after_as s = refl

abbrev pub local_plan : Plan (List ℕ)
local_plan =
    next is_name (λ x. done (name_in x)) refuse

local_by : (xs : List Lexeme) (n : ℕ) → read (one r.Local done) (input n xs) ≡ read local_plan (input n xs)
unfolding read reads step rule local
local_by [] n = refl
local_by (Sign Semicolon ∷ xs) n = refl
local_by (x ∷ xs) n = refl

local_as : (s : Input) → read (one r.Local done) s ≡ read local_plan s
local_as s = local_by s.rest s.opened

-- a name is a local
pub local_read : {s after : Input} {x : List ℕ} → ReadsSome Name (next_of is_name) s (Ok x) after → ReadsSome name_of (one r.Local done) s (Ok x) after
local_read h = same_some _ (local_as _) (follows_some _ h (made _ refl))

pub local_stops : {s after : Input} {e : Stop} → ReadsSome Name (next_of is_name) s (Err e) after → ReadsSome name_of (one r.Local done) s (Err e) after
local_stops {e = e} h = same_some _ (local_as _) (stops_some _ (Err e) refl (only h))

abbrev pub directive_plan : Plan DirectiveTree
directive_plan =
    next (is_word w.Constant) (λ _. constant_after >>= done)
    (next (is_word w.Global) (λ _. global_after >>= done)
    (next (is_word w.Array) (λ _. array_after >>= done)
    (next (is_sign LeftSquare) (λ _. routine_after >>= done) refuse)))

directive_by : (xs : List Lexeme) (n : ℕ) → read (one r.Directive done) (input n xs) ≡ read directive_plan (input n xs)
unfolding read reads step rule directive
directive_by [] n = refl
directive_by (Sign LeftSquare ∷ xs) n = refl
directive_by (Word w.Constant ∷ xs) n = refl
directive_by (x ∷ xs) n = refl

pub directive_as : (s : Input) → read (one r.Directive done) s ≡ read directive_plan s
directive_as s = directive_by s.rest s.opened

entry_starts : (xs : List Lexeme) → heads begins_entry xs ≡ heads (starts r.Entry) xs
unfolding rule entry
entry_starts [] = refl
entry_starts (Sign LeftRound ∷ xs) = refl
entry_starts (_ ∷ xs) = refl

pub entry_more : (front : List Const) (s : Input) → heads begins_entry s.rest ≡ true
    → read (many r.Entry front done) s ≡ read (one r.Entry (λ x. many r.Entry (front ++ x ∷ []) done)) s
unfolding read
entry_more front s e = many-yes within_limit s.rest r.Entry (rw (entry_starts s.rest) at e) front done s.opened

pub entry_last : (front : List Const) (s : Input) → heads begins_entry s.rest ≡ false → read (many r.Entry front done) s ≡ Ok (front, s)
unfolding read
entry_last front s e = many-no within_limit s.rest r.Entry (rw (entry_starts s.rest) at e) front done s.opened ∙ done-here within_limit s.rest front s.opened

local_starts : (xs : List Lexeme) → heads is_name xs ≡ heads (starts r.Local) xs
unfolding rule local
local_starts [] = refl
local_starts (Sign LeftRound ∷ xs) = refl
local_starts (_ ∷ xs) = refl

pub local_more : (front : List (List ℕ)) (s : Input) → heads is_name s.rest ≡ true
    → read (many r.Local front done) s ≡ read (one r.Local (λ x. many r.Local (front ++ x ∷ []) done)) s
unfolding read
local_more front s e = many-yes within_limit s.rest r.Local (rw (local_starts s.rest) at e) front done s.opened

pub local_last : (front : List (List ℕ)) (s : Input) → heads is_name s.rest ≡ false → read (many r.Local front done) s ≡ Ok (front, s)
unfolding read
local_last front s e = many-no within_limit s.rest r.Local (rw (local_starts s.rest) at e) front done s.opened ∙ done-here within_limit s.rest front s.opened

directive_starts : (xs : List Lexeme) → heads begins_directive xs ≡ heads (starts r.Directive) xs
unfolding rule directive
directive_starts [] = refl
directive_starts (Sign LeftSquare ∷ xs) = refl
directive_starts (Word w.Constant ∷ xs) = refl
directive_starts (_ ∷ xs) = refl

pub directive_more : (front : List DirectiveTree) (s : Input) → heads begins_directive s.rest ≡ true
    → read (many r.Directive front done) s ≡ read (one r.Directive (λ x. many r.Directive (front ++ x ∷ []) done)) s
unfolding read
directive_more front s e = many-yes within_limit s.rest r.Directive (rw (directive_starts s.rest) at e) front done s.opened

pub directive_last : (front : List DirectiveTree) (s : Input) → heads begins_directive s.rest ≡ false → read (many r.Directive front done) s ≡ Ok (front, s)
unfolding read
directive_last front s e = many-no within_limit s.rest r.Directive (rw (directive_starts s.rest) at e) front done s.opened ∙ done-here within_limit s.rest front s.opened

-- ---- the end

end_by : (xs : List Lexeme) (n : ℕ) (ds : List DirectiveTree) → is_some (first_glance xs) ≡ false → read (look any_lexeme refuse (done ds)) (input n xs) ≡ Ok (ds, input n xs)
unfolding read reads step
end_by [] n ds e = refl
end_by (x ∷ xs) n ds e = absurd (cc)

pub at_end : (s : Input) (ds : List DirectiveTree) → is_some (first_glance s.rest) ≡ false → read (look any_lexeme refuse (done ds)) s ≡ Ok (ds, s)
at_end s ds e = end_by s.rest s.opened ds e

more_by : (xs : List Lexeme) (n : ℕ) (ds : List DirectiveTree) → is_some (first_glance xs) ≡ true → read (look any_lexeme refuse (done ds)) (input n xs) ≡ Err (fault Unexpected xs)
unfolding read reads step
more_by [] n ds e = absurd (cc)
more_by (x ∷ xs) n ds e = refl

pub not_at_end : (s : Input) (ds : List DirectiveTree) → is_some (first_glance s.rest) ≡ true → read (look any_lexeme refuse (done ds)) s ≡ Err (fault Unexpected s.rest)
not_at_end s ds e = more_by s.rest s.opened ds e

pub ruleset program_steps = (at_end, not_at_end)
