-- A printed program is a sentence of the grammar.
use Rattle.std.proofs.Common.{◌≡◌, ℕ, ◌+◌, ◌*◌, ◌≤◌, true, false, ◌&&◌, leb, List, [], ◌∷◌, Some, None, refl, subst, arith}
use Rattle.std.specs.List.{list_all}
use Rattle.std.proofs.lemmas.Bool.{and_parts, leb-true}
use Rattle.inform_tree.specs.declared.values.Const.{Const}
use Rattle.inform_tree.specs.declared.formed_programs.TheConstants.{DEPTH_LIMIT}
use Rattle.inform_tree.specs.Statements.{Statements}
use Rattle.inform_tree.specs.Programs as d
use Rattle.inform_tree.specs.Programs.{DirectiveTree, RoutineTree}
use Rattle.inform_tree.specs.Words.{is_name}
use Rattle.inform_tree.specs.Depths.{routine_depth, statements_depth}
use Rattle.inform_tree.specs.Formed.{are_formed_entries, are_formed_statements, is_formed_routine, is_formed_directive}
use Rattle.inform_lexemes.specs.declared.symbols.Symbol.TheVariants.{Semicolon, RightSquare}
use Rattle.inform_lexemes.specs.Lexemes.{Lexeme, Sign}
use Rattle.inform_grammar.specs.Reading.{within_limit}
use Rattle.inform_grammar.specs.Sentences.{Entries, last_entry, one_more_entry, Names, last_name, one_more_name, Directive, constant, global, global_with, array, routine, no_more, one_more}
use Rattle.inform_printer.specs.ProgramLexemes.{names_lexemes, entries_lexemes, routine_lexemes, directive_lexemes, program_lexemes}
use Rattle.inform_printer.specs.Laws.{PrintedIsSentence}
use Rattle.inform_printer.proofs.Lists.{statements_back}
use Rattle.inform_printer.proofs.ShownValues.{constant_shown, entry_shown}
use Rattle.inform_printer.proofs.ShownStatements.{statements_shown}

entries_shown : (xs : List Const) (rest : List Lexeme)
    → Entries within_limit 0 xs (entries_lexemes xs rest) rest
entries_shown [] rest = last_entry
entries_shown (x ∷ xs) rest =
    one_more_entry (entry_shown x (entries_lexemes xs rest)) (entries_shown xs rest)

names_shown : (names : List (List ℕ)) (rest : List Lexeme)
    → Names names (names_lexemes names rest) rest
names_shown [] rest = last_name
names_shown (name ∷ names) rest = one_more_name (names_shown names rest)

-- a depth of 64 opens 128 at most
shallow : (n : ℕ) → leb n DEPTH_LIMIT ≡ true → 0 + 2 * n ≤ 200
shallow n h = let bound : n ≤ 64 = leb-true n DEPTH_LIMIT h in omega arith

-- a well-formed routine is spelled as it is printed
routine_shown : (r : RoutineTree) → is_formed_routine r ≡ true → (rest : List Lexeme)
    → Directive within_limit (d.Routine r) (routine_lexemes r rest) rest
routine_shown r f rest =
    let fs = and_parts (is_name r.name) (list_all is_name r.locals &&
    (leb (routine_depth r) DEPTH_LIMIT && are_formed_statements r.body)) f in
    let gs = and_parts (list_all is_name r.locals)
    (leb (routine_depth r) DEPTH_LIMIT && are_formed_statements r.body) fs.1 in
    let hs = and_parts (leb (routine_depth r) DEPTH_LIMIT) (are_formed_statements r.body) gs.1 in
    subst (λ (body : Statements). Directive within_limit
    (d.Routine (record { name = r.name; locals = r.locals; body = body }))
    (routine_lexemes r rest) rest)
    (statements_back r.body)
    (routine (names_shown r.locals _)
    (statements_shown r.body hs.1 0 (shallow (statements_depth r.body) hs.0)
    (Sign RightSquare ∷ Sign Semicolon ∷ rest) refl))

directive_shown : (x : DirectiveTree) → is_formed_directive x ≡ true → (rest : List Lexeme)
    → Directive within_limit x (directive_lexemes x rest) rest
directive_shown (d.Constant name x) f rest = constant (constant_shown x _)
directive_shown (d.Global name None) f rest = global
directive_shown (d.Global name (Some x)) f rest = global_with (constant_shown x _)
directive_shown (d.Array name words []) f rest =
    let e : false ≡ true = (and_parts (is_name name) (are_formed_entries []) f).1 in absurd (cc)
directive_shown (d.Array name words (x ∷ xs)) f rest = array (entry_shown x _) (entries_shown xs _)
directive_shown (d.Routine r) f rest = routine_shown r f rest

pub printed_is_sentence : PrintedIsSentence
printed_is_sentence [] f = no_more
printed_is_sentence (x ∷ xs) f =
    let fs = and_parts (is_formed_directive x) (list_all is_formed_directive xs) f in
    one_more (directive_shown x fs.0 (program_lexemes xs)) (printed_is_sentence xs fs.1)
