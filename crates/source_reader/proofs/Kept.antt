-- Each source that has a text is well formed.
use Rattle.std.proofs.Common.{◌≡◌, ℕ, zero, suc, ◌==◌, Bool, true, false, cond, nat_lt, List, [], Option, Some, None, refl, arith}
use Rattle.std.specs.Prelude.{IsTrue}
use Rattle.std.proofs.lemmas.Bool.{and_from}
use Rattle.std.proofs.lemmas.Bool.Decides.{nat_tests}
use Rattle.scott_types.specs.Limits.{is_file_text}
use Rattle.scott_types.specs.Opcode.{opcode_of, uses}
use Rattle.source_reader.specs.declared.tokens.Token.{Token}
use Rattle.source_reader.specs.declared.tokens.Token.TheVariants as token
use Rattle.source_reader.specs.declared.titles.Title.{Title}
use Rattle.source_reader.specs.declared.tree.Entries.{Entries}
use Rattle.source_reader.specs.declared.tree.Op.TheVariants as op
use Rattle.source_reader.specs.declared.tree.Source.{Source}
use Rattle.source_reader.specs.Plan.{Plan, done, refuse, ◌>>=◌, ◌>>◌}
use Rattle.source_reader.specs.Names.{opcode_number}
use Rattle.source_reader.specs.Singles.{here, is_mark, any_token, symbol, string_of, string, reference, item_place, end_of_text}
use Rattle.source_reader.specs.Lists.{no_entries, with_first, entry_or_end, up_to, many, most, braced, listing}
use Rattle.source_reader.specs.Entries.{titled, title_of, word_part, exits, next_reference, room_rest, room_part, message_rest, message_part, item_rest, item_part, condition_of, condition, one_parameter, two_parameters, parameters, after_name, named_opcode, opcode_named, message_said, opcode_numbered, opcode, line_head, comment_of, comment, line_part}
use Rattle.source_reader.specs.Text.{settings, trailer, source_of, lists, source}
use Rattle.source_reader.specs.WellFormed.{is_word_part, is_room_part, is_message_part, is_item_part, is_condition, is_opcode, all_of, is_line_part, WellFormed}
use Rattle.source_reader.proofs.Always.{Fits, Always, Always-then, Always-after}

-- ---- one thing

abbrev Texts : List ℕ → Type 0
Texts text = IsTrue (is_file_text text)

string_by : (at : ℕ) (t : Token) → Fits t → Always (string_of at t) Texts
string_by at (token.Number z) fits = tt
string_by at (token.Quoted text) fits = fits
string_by at (token.Word w) fits = tt
string_by at (token.Mark b) fits = tt
string_by at token.End fits = tt

any_fits : Always any_token (λ t. Fits t.what)
unfolding any_token
any_fits = λ at t fits. fits

string_fits : Always string Texts
unfolding string
string_fits = Always-then (λ t. Fits t.what) Texts (λ t. string_of t.at t.what) any_token any_fits (λ t fits. string_by t.at t.what fits)

abbrev HasText : Title → Type 0
HasText name = IsTrue (is_file_text name.text)

named_by : (at : ℕ) (w : List ℕ) (is : Bool)
    → Always (cond is (string >>= λ text. done (record { name = Some (here at w); text = text })) (refuse at)) HasText
named_by at w true = Always-then Texts HasText (λ text. done (record { name = Some (here at w); text = text })) string string_fits (λ text fits. fits)
named_by at w false = tt

title_by : (at : ℕ) (t : Token) → Fits t → Always (title_of at t) HasText
title_by at (token.Number z) fits = tt
title_by at (token.Quoted text) fits = fits
title_by at (token.Word w) fits = named_by at w _
title_by at (token.Mark b) fits = tt
title_by at token.End fits = tt

titled_fits : Always titled HasText
unfolding titled
titled_fits = Always-then (λ t. Fits t.what) HasText (λ t. title_of t.at t.what) any_token any_fits (λ t fits. title_by t.at t.what fits)

-- ---- a list

abbrev All : {X : Type 0} → (X → Bool) → Entries X → Type 0
All test xs = IsTrue (all_of test xs.entries)

module _ {X : Type 0} (test : X → Bool) (piece : ℕ → Token → Plan X)
    (each : (at : ℕ) (t : Token) → Fits t → Always (piece at t) (λ x. IsTrue (test x))) where
  entry_by : (others : Plan (Entries X)) → Always others (All test) → (at : ℕ) (t : Token) → Fits t → (brace : Bool)
      → Always (cond brace (done (no_entries at)) (piece at t >>= λ x. others >>= λ more. done (with_first (here at x) more))) (All test)
  entry_by others h at t fits true = refl
  entry_by others h at t fits false =
      Always-then (λ x. IsTrue (test x)) (All test) (λ x. others >>= λ more. done (with_first (here at x) more)) (piece at t) (each at t fits)
      (λ x passes. Always-then (All test) (All test) (λ more. done (with_first (here at x) more)) others h (λ more all. and_from _ _ passes all))

  up_to_fits : (n : ℕ) → Always (up_to piece n) (All test)
  unfolding up_to
  up_to_fits zero = tt
  up_to_fits (suc n) =
      Always-then (λ t. Fits t.what) (All test) (entry_or_end piece (up_to piece n)) any_token any_fits
      (λ t fits. entry_by (up_to piece n) (up_to_fits n) t.at t.what fits (is_mark 125 t.what))

  many_fits : Always (many piece) (All test)
  unfolding many
  many_fits = up_to_fits most

  braced_fits : Always (braced piece) (All test)
  unfolding braced
  braced_fits = Always-after (All test) (λ known. many piece) (symbol 123) (λ known. many_fits)

  listing_fits : (word : List ℕ) → Always (listing word piece) (All test)
  unfolding listing
  listing_fits word = Always-after (All test) (λ known. braced piece) _ (λ known. braced_fits)

-- ---- entries

choice : {X : Type 0} (P : X → Type 0) (p : Plan X) (at : ℕ) → Always p P → (is : Bool) → Always (cond is p (refuse at)) P
choice P p at h true = h
choice P p at h false = tt

abbrev Passes : {X : Type 0} → (X → Bool) → X → Type 0
Passes test x = IsTrue (test x)

word_fits : (at : ℕ) (t : Token) → Fits t → Always (word_part at t) (Passes is_word_part)
word_fits at (token.Number z) fits = tt
word_fits at (token.Quoted verb) fits =
    Always-then Texts (Passes is_word_part) (λ noun. symbol 59 >> done (record { verb = verb; noun = noun })) string string_fits
    (λ noun known. Always-after (Passes is_word_part) (λ u. done (record { verb = verb; noun = noun })) (symbol 59) (λ u. and_from _ _ fits known))
word_fits at (token.Word w) fits = tt
word_fits at (token.Mark b) fits = tt
word_fits at token.End fits = tt

room_rest_fits : Always room_rest (Passes is_room_part)
unfolding room_rest
room_rest_fits =
    Always-then HasText (Passes is_room_part) _ titled titled_fits
    (λ name known. Always-after (Passes is_room_part) _ (symbol 58 >> exits) (λ ways. known))

room_fits : (at : ℕ) (t : Token) → Fits t → Always (room_part at t) (Passes is_room_part)
room_fits at t fits = choice (Passes is_room_part) room_rest at room_rest_fits _

message_rest_fits : Always message_rest (Passes is_message_part)
unfolding message_rest
message_rest_fits =
    Always-then HasText (Passes is_message_part) _ titled titled_fits
    (λ name known. Always-after (Passes is_message_part) _ (symbol 59) (λ u. known))

message_fits : (at : ℕ) (t : Token) → Fits t → Always (message_part at t) (Passes is_message_part)
message_fits at t fits = choice (Passes is_message_part) message_rest at message_rest_fits _

item_rest_fits : Always item_rest (Passes is_item_part)
unfolding item_rest
item_rest_fits =
    Always-then HasText (Passes is_item_part) _ titled titled_fits
    (λ name known. Always-after (Passes is_item_part) _ (symbol 58 >> item_place)
    (λ where_it_is. Always-after (Passes is_item_part) _ (symbol 59) (λ u. known)))

item_fits : (at : ℕ) (t : Token) → Fits t → Always (item_part at t) (Passes is_item_part)
item_fits at t fits = choice (Passes is_item_part) item_rest at item_rest_fits _

-- ---- conditions

condition_by : (at k : ℕ) (is : Bool) → nat_lt k 20 ≡ is → Always (condition_of at (cond is (Some k) None)) (Passes is_condition)
condition_by at k true e =
    Always-after (Passes is_condition) _ reference (λ arg. Always-after (Passes is_condition) _ (symbol 59) (λ u. e))
condition_by at k false e = tt

condition_fits : (at : ℕ) (t : Token) → Fits t → Always (condition at t) (Passes is_condition)
condition_fits at (token.Number z) fits = tt
condition_fits at (token.Quoted text) fits = tt
condition_fits at (token.Word w) fits = condition_by at _ _ refl
condition_fits at (token.Mark b) fits = tt
condition_fits at token.End fits = tt

-- ---- opcodes

one_fits : (n : ℕ) → (uses (opcode_of n) == 1) ≡ true → Always (one_parameter n) (Passes is_opcode)
unfolding one_parameter
one_fits n e =
    let same : (1 == uses (opcode_of n)) ≡ true = grind (arith, nat_tests, e) in
    Always-after (Passes is_opcode) _ reference
    (λ p. Always-after (Passes is_opcode) _ (symbol 41 >> symbol 59) (λ u. same))

two_fit : (n : ℕ) → (uses (opcode_of n) == 2) ≡ true → Always (two_parameters n) (Passes is_opcode)
unfolding two_parameters
two_fit n e =
    let same : (2 == uses (opcode_of n)) ≡ true = grind (arith, nat_tests, e) in
    Always-after (Passes is_opcode) _ reference
    (λ p. Always-after (Passes is_opcode) _ next_reference
    (λ q. Always-after (Passes is_opcode) _ (symbol 41 >> symbol 59) (λ u. same)))

parameters_by : (n at : ℕ) (one two : Bool) → (uses (opcode_of n) == 1) ≡ one → (uses (opcode_of n) == 2) ≡ two
    → Always (cond one (one_parameter n) (cond two (two_parameters n) (refuse at))) (Passes is_opcode)
parameters_by n at true two e h = one_fits n e
parameters_by n at false true e h = two_fit n h
parameters_by n at false false e h = tt

after_name_by : (n at : ℕ) (ended bracket : Bool) → Always (cond ended (done (op.Named n)) (cond bracket (parameters n at) (refuse at))) (Passes is_opcode)
after_name_by n at true bracket = refl
after_name_by n at false true = parameters_by n at _ _ refl refl
after_name_by n at false false = tt

named_fits : (n : ℕ) → Always (named_opcode n) (Passes is_opcode)
unfolding named_opcode
named_fits n = Always-after (Passes is_opcode) (λ t. after_name n t.at t.what) any_token (λ t. after_name_by n t.at _ _)

said_fits : Always message_said (Passes is_opcode)
unfolding message_said
said_fits = Always-after (Passes is_opcode) _ reference (λ m. Always-after (Passes is_opcode) _ (symbol 59) (λ u. refl))

numbered_fits : Always opcode_numbered (Passes is_opcode)
unfolding opcode_numbered
numbered_fits = Always-after (Passes is_opcode) _ _ (λ n. Always-after (Passes is_opcode) _ (symbol 59) (λ u. refl))

named_by_number : (at : ℕ) (o : Option ℕ) → Always (opcode_named at o) (Passes is_opcode)
named_by_number at (Some n) = named_fits n
named_by_number at None = tt

opcode_by : (at : ℕ) (say numbered : Bool) (o : Option ℕ)
    → Always (cond say message_said (cond numbered opcode_numbered (opcode_named at o))) (Passes is_opcode)
opcode_by at true numbered o = said_fits
opcode_by at false true o = numbered_fits
opcode_by at false false o = named_by_number at o

opcode_fits : (at : ℕ) (t : Token) → Fits t → Always (opcode at t) (Passes is_opcode)
opcode_fits at (token.Number z) fits = tt
opcode_fits at (token.Quoted text) fits = tt
opcode_fits at (token.Word w) fits = opcode_by at _ _ (opcode_number w)
opcode_fits at (token.Mark b) fits = tt
opcode_fits at token.End fits = tt

-- ---- lines

no_comment : (at : ℕ) (is : Bool) → Always (cond is (done []) (refuse at)) Texts
no_comment at true = refl
no_comment at false = tt

comment_by : (at : ℕ) (t : Token) → Fits t → Always (comment_of at t) Texts
comment_by at (token.Number z) fits = tt
comment_by at (token.Quoted text) fits = Always-after Texts (λ u. done text) (symbol 59) (λ u. fits)
comment_by at (token.Word w) fits = tt
comment_by at (token.Mark b) fits = no_comment at (b == 59)
comment_by at token.End fits = tt

comment_fits : Always comment Texts
unfolding comment
comment_fits = Always-then (λ t. Fits t.what) Texts (λ t. comment_of t.at t.what) any_token any_fits (λ t fits. comment_by t.at t.what fits)

action_fits : (at : ℕ) (t : Token) → Fits t → Always (line_part at t) (Passes is_line_part)
action_fits at t fits =
    Always-after (Passes is_line_part) _ (line_head at t)
    (λ first. Always-then (All is_condition) (Passes is_line_part) _ (braced condition) (braced_fits is_condition condition condition_fits)
    (λ conds c. Always-then (All is_opcode) (Passes is_line_part) _ (braced opcode) (braced_fits is_opcode opcode opcode_fits)
    (λ ops o. Always-then Texts (Passes is_line_part) _ comment comment_fits
    (λ text t. and_from _ _ c (and_from _ _ o t)))))

-- ---- the whole

ends : (tree : Source) → WellFormed tree → Always (end_of_text >> done tree) WellFormed
ends tree h = Always-after WellFormed (λ u. done tree) end_of_text (λ u. h)

-- whatever is read as a source is well formed
pub source_fits : Always source WellFormed
unfolding source lists
source_fits =
    Always-after WellFormed lists settings
    (λ first. Always-then (All is_word_part) WellFormed _ _ (listing_fits is_word_part word_part word_fits _)
    (λ words w. Always-then (All is_room_part) WellFormed _ _ (listing_fits is_room_part room_part room_fits _)
    (λ rooms r. Always-then (All is_message_part) WellFormed _ _ (listing_fits is_message_part message_part message_fits _)
    (λ messages m. Always-then (All is_item_part) WellFormed _ _ (listing_fits is_item_part item_part item_fits _)
    (λ items i. Always-then (All is_line_part) WellFormed _ _ (listing_fits is_line_part line_part action_fits _)
    (λ lines l. Always-after WellFormed _ trailer
    (λ numbers. ends (source_of first words rooms messages items lines numbers)
    (record { words = w; rooms = r; messages = m; items = i; lines = l }))))))))
