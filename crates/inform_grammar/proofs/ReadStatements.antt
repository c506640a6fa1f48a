-- Statements that are spelled so are read so.
use Rattle.std.proofs.Common.{◌≡◌, ℕ, Bool, true, false, List, [], ◌∷◌, ◌++◌, map, Option, refl, sym, ap, ◌∙◌, append_assoc, append-nil}
use Rattle.inform_tree.specs.declared.values.Const.{Const}
use Rattle.inform_tree.specs.Values.{Expression}
use Rattle.inform_tree.specs.Statements as s
use Rattle.inform_tree.specs.Statements.{Assignment, PrintItem}
use Rattle.inform_lexemes.specs.declared.symbols.Symbol.TheVariants.{Semicolon, Comma, Colon, LeftRound, RightRound, LeftBrace, RightBrace}
use Rattle.inform_lexemes.specs.declared.keywords.Keyword.TheVariants as w
use Rattle.inform_lexemes.specs.Lexemes.{Lexeme, Quoted, Sign, is_sign, is_word}
use Rattle.inform_grammar.specs.Rules as r
use Rattle.inform_grammar.specs.Rules.{SwitchPart, Head, Said}
use Rattle.inform_grammar.specs.Lexemes.{Yes, No, continues_choice, one_less}
use Rattle.inform_grammar.specs.Plan.{Plan, done, many, ◌>>=◌, take, one, optional}
use Rattle.inform_grammar.specs.ConditionRules.{value_after}
use Rattle.inform_grammar.specs.StatementRules.{range_after, choices_after, head_after, split_parts, cases_of, default_after, cases_after, else_after, for_body, for_last, for_test}
use Rattle.inform_grammar.specs.Reading.{reads}
use Rattle.inform_grammar.specs.Values.{Constant, a_number, a_character, a_constant, below_zero, Primary, bracketed, Unary, operand, a_value, a_product, begins_entry}
use Rattle.inform_grammar.specs.Statements.{Change, set, set_entry, increment, decrement, ChangeIfAny, no_change, a_change, ConditionIfAny, no_condition, some_condition, Item, text, decimal, as_character, Items, last_item, one_more_item, Choice, single, range, Choices, last_choice, one_more_choice, Statement, empty, block, change, call, conditional, while_loop, do_loop, for_loop, switch, break, continue, quit, rtrue, rfalse, return, return_value, new_line, print, read, Body, in_braces, just_one, ElseIfAny, no_else, an_else, Statements, last_statement, one_more_statement, Cases, last_case, one_more_case, DefaultIfAny, no_default, a_default}
use Rattle.inform_grammar.proofs.Opened.{opened}
use Rattle.inform_grammar.proofs.Steps.{starts, opened-here, shut-here, next-no, look-yes, maybe-no, maybe-yes, many-no, many-yes, one-as-here, one-as, mark, there, same-heads}
use Rattle.inform_grammar.proofs.ReadValues.{read-constant, read-primary, read-arguments, read-unary, read-factors, read-terms, read-value, value-there}
use Rattle.inform_grammar.proofs.ReadConditions.{read-condition, value-as-unary}
use Rattle.inform_grammar.specs.Trees.{Guard, condition, cases_tree}

-- ---- changes

pub read-change : (room : ℕ → Bool) {X : Type 0} {o : ℕ} {x : Assignment} {ts rest : List Lexeme} → Change room o x ts rest
    → (k : Assignment → Plan X) → reads room ts (one r.Change k) o ≡ reads room rest (k x) o
unfolding opened
read-change room (set x) k = read-value room x _
read-change room (set_entry {words = true} i x) k = read-primary room i _ ∙ read-value room x _
read-change room (set_entry {words = false} i x) k = read-primary room i _ ∙ read-value room x _
read-change room increment k = refl
read-change room decrement k = refl

-- a change, read as a statement
change-as-statement : (room : ℕ → Bool) {X : Type 0} {o : ℕ} {x : Assignment} {ts rest : List Lexeme} → Change room o x ts rest
    → (k : s.Statement → Plan X) → reads room ts (one r.Statement k) o ≡ reads room ts (one r.Change (λ x. take (is_sign Semicolon) (k (s.Assign x)))) o
unfolding opened
change-as-statement room (set x) k = refl
change-as-statement room (set_entry {words = true} i x) k = refl
change-as-statement room (set_entry {words = false} i x) k = refl
change-as-statement room increment k = refl
change-as-statement room decrement k = refl

read-change-if : (room : ℕ → Bool) {X : Type 0} {o : ℕ} {x : Option Assignment} {ts rest : List Lexeme} → ChangeIfAny room o x ts rest
    → No (starts r.Change) rest → (k : Option Assignment → Plan X) → reads room ts (optional r.Change k) o ≡ reads room rest (k x) o
read-change-if room (no_change {rest = rest}) h k = maybe-no room rest r.Change h _ _ _
read-change-if room (a_change {ts = ts} x) h k =
    maybe-yes room ts r.Change (there room r.Change _ _ _ _ (read-change room x (λ _. mark))) _ _ _ ∙ read-change room x _

read-condition-if : (room : ℕ → Bool) {X : Type 0} {o : ℕ} {x : Option Guard} {ts rest : List Lexeme} → ConditionIfAny room o x ts rest
    → No (starts r.Condition) rest → (k : Option Guard → Plan X) → reads room ts (optional r.Condition k) o ≡ reads room rest (k x) o
read-condition-if room (no_condition {rest = rest}) h k = maybe-no room rest r.Condition h _ _ _
read-condition-if room (some_condition {ts = ts} x) h k =
    maybe-yes room ts r.Condition (there room r.Condition _ _ _ _ (read-condition room x (λ _. mark))) _ _ _ ∙ read-condition room x _

-- ---- items of `print`

abbrev begins_item : Lexeme → Bool
begins_item (Sign LeftRound) = false
begins_item (Quoted bytes) = false
begins_item _ = true

item-as-unary : (room : ℕ → Bool) {X : Type 0} (t : Lexeme) (ts : List Lexeme) → begins_item t ≡ true → (k : PrintItem → Plan X) (o : ℕ)
    → reads room (t ∷ ts) (one r.Item k) o ≡ reads room (t ∷ ts) (one r.Unary (λ x. value_after x >>= λ y. k (s.Value y))) o
unfolding opened
item-as-unary room (Sign LeftRound) ts h k o = absurd (cc)
item-as-unary room (Quoted bytes) ts h k o = absurd (cc)
item-as-unary room t ts h k o =
    one-as-here room t ts r.Item r.Value (λ y. done (s.Value y)) k o refl ∙ value-as-unary room (t ∷ ts) (λ x. k (s.Value x)) o

as-item : (room : ℕ → Bool) {X : Type 0} {o : ℕ} {x : Expression} {t : Lexeme} {ts rest : List Lexeme} → Unary room o x (t ∷ ts) rest
    → begins_item t ≡ true → (k : PrintItem → Plan X) → reads room (t ∷ ts) (one r.Item k) o ≡ reads room rest (value_after x >>= λ y. k (s.Value y)) o
as-item room {o = o} {t = t} {ts = ts} x h k = item-as-unary room t ts h k o ∙ read-unary room x (λ x. value_after x >>= λ y. k (s.Value y))

primary-as-item : (room : ℕ → Bool) {X : Type 0} {o : ℕ} {x : Expression} {ts rest : List Lexeme} → begins_entry ts ≡ false → Primary room o x ts rest
    → (k : PrintItem → Plan X) → reads room ts (one r.Item k) o ≡ reads room rest (value_after x >>= λ y. k (s.Value y)) o
unfolding opened
primary-as-item room h (bracketed {ts = ts} e x) k =
    opened-here e _ _ ∙ maybe-yes room ts r.Value (value-there room x) _ _ _ ∙ read-value room x _
primary-as-item room h d k = as-item room (operand h d) refl k

unary-as-item : (room : ℕ → Bool) {X : Type 0} {o : ℕ} {x : Expression} {ts rest : List Lexeme} → Unary room o x ts rest
    → (k : PrintItem → Plan X) → reads room ts (one r.Item k) o ≡ reads room rest (value_after x >>= λ y. k (s.Value y)) o
unfolding opened
unary-as-item room (operand h x) k = primary-as-item room h x k
unary-as-item room d k = as-item room d refl k

read-item : (room : ℕ → Bool) {X : Type 0} {o : ℕ} {x : PrintItem} {ts rest : List Lexeme} → Item room o x ts rest
    → (k : PrintItem → Plan X) → reads room ts (one r.Item k) o ≡ reads room rest (k x) o
unfolding opened
read-item room text k = refl
read-item room (decimal (a_value (a_product x xs) ys)) k = unary-as-item room x k ∙ read-factors room xs [] _ ∙ read-terms room ys [] _
read-item room (as_character h x) k = opened-here h _ _ ∙ read-value room x _

starts-further-item : (x : Lexeme) → starts r.FurtherItem x ≡ is_sign Comma x
unfolding opened
starts-further-item (Sign Comma) = refl
starts-further-item _ = refl

read-items : (room : ℕ → Bool) {X : Type 0} {o : ℕ} {xs : List PrintItem} {ts rest : List Lexeme} → Items room o xs ts rest
    → No (is_sign Comma) rest → (front : List PrintItem) (k : List PrintItem → Plan X)
    → reads room ts (many r.FurtherItem front k) o ≡ reads room rest (k (front ++ xs)) o
unfolding opened
read-items room {o = o} (last_item {rest = rest}) h front k =
    many-no room rest r.FurtherItem (same-heads starts-further-item rest ∙ h) front k o
    ∙ ap (λ xs. reads room rest (k xs) o) (sym (append-nil front))
read-items room {o = o} {rest = rest} (one_more_item {x = x} {xs = xs} d ds) h front k =
    read-item room d _ ∙ read-items room ds h _ k ∙ ap (λ xs. reads room rest (k xs) o) (append_assoc front (x ∷ []) xs)

-- ---- choices

read-choice : (room : ℕ → Bool) {X : Type 0} {x : s.Choice} {ts rest : List Lexeme} → Choice x ts rest → (k : s.Choice → Plan X) (o : ℕ)
    → reads room ts (one r.Choice k) o ≡ reads room rest (k x) o
unfolding opened
read-choice room (single {ts = ts} {rest = rest} x h) k o =
    one-as room ts r.Choice r.Constant range_after k o (λ t. refl) ∙ read-constant room x _ o ∙ next-no room rest (is_word w.To) h _ _ o
read-choice room (range {ts = ts} x y) k o =
    one-as room ts r.Choice r.Constant range_after k o (λ t. refl) ∙ read-constant room x _ o ∙ read-constant room y _ o

starts-further-choice : (x : Lexeme) → starts r.FurtherChoice x ≡ is_sign Comma x
unfolding opened
starts-further-choice (Sign Comma) = refl
starts-further-choice _ = refl

read-choices : (room : ℕ → Bool) {X : Type 0} {xs : List s.Choice} {ts rest : List Lexeme} → Choices xs ts rest → No (is_sign Comma) rest
    → (front : List s.Choice) (k : List s.Choice → Plan X) (o : ℕ)
    → reads room ts (many r.FurtherChoice front k) o ≡ reads room rest (k (front ++ xs)) o
unfolding opened
read-choices room (last_choice {rest = rest}) h front k o =
    many-no room rest r.FurtherChoice (same-heads starts-further-choice rest ∙ h) front k o
    ∙ ap (λ xs. reads room rest (k xs) o) (sym (append-nil front))
read-choices room {rest = rest} (one_more_choice {x = x} {xs = xs} d ds) h front k o =
    read-choice room d _ o ∙ read-choices room ds h _ k o ∙ ap (λ xs. reads room rest (k xs) o) (append_assoc front (x ∷ []) xs)

-- a first choice, and the others up to the colon
pub read-head : (room : ℕ → Bool) {X : Type 0} {x : s.Choice} {xs : List s.Choice} {ts mid rest : List Lexeme} → Choice x ts mid
    → Choices xs mid (Sign Colon ∷ rest) → (k : List s.Choice → Plan X) (o : ℕ)
    → reads room ts (one r.Choice (λ x. choices_after x >>= k)) o ≡ reads room rest (k (x ∷ xs)) o
unfolding opened
read-head room d ds k o = read-choice room d _ o ∙ read-choices room ds refl _ _ o

-- ---- what stands in the braces of a `switch`

-- a constant, read as the beginning of a case
constant-as-part : (room : ℕ → Bool) {X : Type 0} {x : Const} {ts rest : List Lexeme} → Constant x ts rest → Yes continues_choice rest
    → (k : SwitchPart → Plan X) (o : ℕ) → reads room ts (one r.Part k) o ≡ reads room ts (one r.Constant (λ x. head_after x >>= k)) o
unfolding opened
constant-as-part room a_number h k o = refl
constant-as-part room a_character h k o = refl
constant-as-part room (a_constant {rest = rest}) h k o = look-yes room rest continues_choice h _ _ o
constant-as-part room below_zero h k o = refl

choices-continue : {xs : List s.Choice} {ts rest : List Lexeme} → Choices xs ts (Sign Colon ∷ rest) → Yes continues_choice ts
choices-continue last_choice = refl
choices-continue (one_more_choice d ds) = refl

read-part-head : (room : ℕ → Bool) {X : Type 0} {x : s.Choice} {xs : List s.Choice} {ts mid rest : List Lexeme} → Choice x ts mid
    → Choices xs mid (Sign Colon ∷ rest) → (k : SwitchPart → Plan X) (o : ℕ)
    → reads room ts (one r.Part k) o ≡ reads room rest (k (Head (x ∷ xs))) o
unfolding opened
read-part-head room (single {rest = mid} x h) ds k o =
    constant-as-part room x (choices-continue ds) k o ∙ read-constant room x _ o ∙ next-no room mid (is_word w.To) h _ _ o
    ∙ read-choices room ds refl _ _ o
read-part-head room (range x y) ds k o =
    constant-as-part room x refl k o ∙ read-constant room x _ o ∙ read-constant room y _ o ∙ read-choices room ds refl _ _ o

-- a statement, read as a part
part-as-statement : (room : ℕ → Bool) {X : Type 0} {o : ℕ} {x : s.Statement} {ts rest : List Lexeme} → Statement room o x ts rest
    → (k : SwitchPart → Plan X) → reads room ts (one r.Part k) o ≡ reads room ts (one r.Statement (λ x. k (Said x))) o
unfolding opened
part-as-statement room (change (set x)) k = refl
part-as-statement room (change (set_entry {words = true} i x)) k = refl
part-as-statement room (change (set_entry {words = false} i x)) k = refl
part-as-statement room (change increment) k = refl
part-as-statement room (change decrement) k = refl
part-as-statement room _ k = refl

abbrev parts_of : List (List s.Choice × List s.Statement) → List SwitchPart
parts_of [] = []
parts_of (x ∷ xs) = Head x.0 ∷ (map (λ y. Said y) x.1 ++ parts_of xs)

split-back : (ys : List s.Statement) (xs : List (List s.Choice × List s.Statement)) → split_parts (map (λ y. Said y) ys ++ parts_of xs) ≡ (ys, xs)
split-back [] [] = refl
split-back [] (x ∷ xs) = ap (λ (p : List s.Statement × List (List s.Choice × List s.Statement)). ([], (x.0, p.0) ∷ p.1)) (split-back x.1 xs)
split-back (y ∷ ys) xs = ap (λ (p : List s.Statement × List (List s.Choice × List s.Statement)). (y ∷ p.0, p.1)) (split-back ys xs)

cases-back : (x : List s.Choice) (ys : List s.Statement) (xs : List (List s.Choice × List s.Statement))
    → cases_of x (map (λ y. Said y) ys ++ parts_of xs) ≡ (x, ys) ∷ xs
cases-back x ys xs = ap (λ (p : List s.Statement × List (List s.Choice × List s.Statement)). (x, p.0) ∷ p.1) (split-back ys xs)

default-ends : (room : ℕ → Bool) {o : ℕ} {other : Option (List s.Statement)} {ts rest : List Lexeme} → DefaultIfAny room o other ts (Sign RightBrace ∷ rest)
    → No (starts r.Part) ts × No (starts r.Choice) ts
unfolding opened
default-ends room no_default = (refl, refl)
default-ends room (a_default xs) = (refl, refl)

-- ---- statements

-- a body that is no block is a statement
body-as-statement : (room : ℕ → Bool) {X : Type 0} (ts : List Lexeme) → No (is_sign LeftBrace) ts → (k : List s.Statement → Plan X) (o : ℕ)
    → reads room ts (one r.Body k) o ≡ reads room ts (one r.Statement (λ x. k (x ∷ []))) o
unfolding opened
body-as-statement room [] h k o = refl
body-as-statement room (Sign LeftBrace ∷ ts) h k o = absurd (cc)
body-as-statement room (t ∷ ts) h k o = one-as-here room t ts r.Body r.Statement (λ y. done (y ∷ [])) k o refl

-- a block ends where no statement begins
abbrev pub Ends : List Lexeme → Type 0
Ends ts = No (starts r.Statement) ts

mutual
  unfolding opened

  -- a statement that is spelled so is read so, and the plan goes on with the lexemes after it
  pub read-statement : (room : ℕ → Bool) {X : Type 0} {o : ℕ} {x : s.Statement} {ts rest : List Lexeme} → Statement room o x ts rest
      → (k : s.Statement → Plan X) → reads room ts (one r.Statement k) o ≡ reads room rest (k x) o
  read-statement room empty k = refl
  read-statement room (block h xs) k = opened-here h _ _ ∙ read-statements room xs refl [] _
  read-statement room (change x) k = change-as-statement room x k ∙ read-change room x _
  read-statement room (call h xs) k = opened-here h _ _ ∙ read-arguments room xs _
  read-statement room (conditional {x = y} {xs = zs} h g x xs ys) k =
      opened-here h _ _ ∙ opened-here g _ _ ∙ read-condition room x _ ∙ read-body room xs _ ∙ read-else room ys y zs k
  read-statement room (while_loop {rest = rest} h g x xs) k =
      opened-here h _ _ ∙ opened-here g _ _ ∙ read-condition room x _ ∙ read-body room xs _ ∙ shut-here room rest _ _
  read-statement room (do_loop {rest = rest} h g xs x) k =
      opened-here h _ _ ∙ read-body room xs _ ∙ opened-here g _ _ ∙ read-condition room x _ ∙ shut-here room rest _ _
  read-statement room (for_loop {first = a} {last = b} {x = y} {rest = rest} h g first x last xs) k =
      opened-here h _ _ ∙ opened-here g _ _
      ∙ read-change-if room first refl (λ a. take (is_sign Colon) (for_test a >>= k))
      ∙ read-condition-if room x refl (λ y. take (is_sign Colon) (for_last a y >>= k))
      ∙ read-change-if room last refl (λ b. take (is_sign RightRound) (for_body a y b >>= k))
      ∙ read-body room xs _ ∙ shut-here room rest _ _
  read-statement room (switch {x = y} {xs = cs} h x xs other) k =
      opened-here h _ _ ∙ read-value room x _ ∙ opened-here h _ _ ∙ read-first-case room xs (default-ends room other) y k ∙ read-default room other y cs k
  read-statement room break k = refl
  read-statement room continue k = refl
  read-statement room quit k = refl
  read-statement room rtrue k = refl
  read-statement room rfalse k = refl
  read-statement room return k = refl
  read-statement room (return_value {ts = ts} x) k = maybe-yes room ts r.Value (value-there room x) _ _ _ ∙ read-value room x _
  read-statement room new_line k = refl
  read-statement room (print x xs) k = read-item room x _ ∙ read-items room xs refl _ _
  read-statement room read k = refl

  pub read-body : (room : ℕ → Bool) {X : Type 0} {o : ℕ} {xs : List s.Statement} {ts rest : List Lexeme} → Body room o xs ts rest
      → (k : List s.Statement → Plan X) → reads room ts (one r.Body k) o ≡ reads room rest (k xs) o
  read-body room (in_braces h xs) k = opened-here h _ _ ∙ read-statements room xs refl [] _
  read-body room {o = o} (just_one {ts = ts} h x) k = body-as-statement room ts h k o ∙ read-statement room x _

  read-else : (room : ℕ → Bool) {X : Type 0} {o : ℕ} {ys : List s.Statement} {ts rest : List Lexeme} → ElseIfAny room o ys ts rest
      → (x : Guard) (xs : List s.Statement) (k : s.Statement → Plan X)
      → reads room ts (else_after x xs >>= k) o ≡ reads room rest (k (s.If (condition x) (s.statements xs) (s.statements ys))) (one_less o)
  read-else room (no_else {rest = rest} h) x xs k = next-no room rest (is_word w.Else) h _ _ _ ∙ shut-here room rest _ _
  read-else room (an_else {rest = rest} ys) x xs k = read-body room ys _ ∙ shut-here room rest _ _

  pub read-statements : (room : ℕ → Bool) {X : Type 0} {o : ℕ} {xs : List s.Statement} {ts rest : List Lexeme} → Statements room o xs ts rest
      → Ends rest → (front : List s.Statement) (k : List s.Statement → Plan X)
      → reads room ts (many r.Statement front k) o ≡ reads room rest (k (front ++ xs)) o
  read-statements room {o = o} (last_statement {rest = rest}) h front k =
      many-no room rest r.Statement h front k o ∙ ap (λ xs. reads room rest (k xs) o) (sym (append-nil front))
  read-statements room {o = o} {rest = rest} (one_more_statement {x = x} {xs = xs} {ts = ts} {mid = mid} d ds) h front k =
      many-yes room ts r.Statement (there room r.Statement ts mid o o (read-statement room d (λ _. mark))) front k o
      ∙ read-statement room d _ ∙ read-statements room ds h _ k ∙ ap (λ xs. reads room rest (k xs) o) (append_assoc front (x ∷ []) xs)

  -- the statements of a case, which go on as long as no other case begins
  read-said : (room : ℕ → Bool) {X : Type 0} {o : ℕ} {xs : List s.Statement} {ts rest : List Lexeme} → Statements room o xs ts rest
      → (front : List SwitchPart) (k : List SwitchPart → Plan X)
      → reads room ts (many r.Part front k) o ≡ reads room rest (many r.Part (front ++ map (λ y. Said y) xs) k) o
  read-said room {o = o} (last_statement {rest = rest}) front k =
      ap (λ xs. reads room rest (many r.Part xs k) o) (sym (append-nil front))
  read-said room {o = o} {rest = rest} (one_more_statement {x = x} {xs = xs} {ts = ts} {mid = mid} d ds) front k =
      many-yes room ts r.Part (there room r.Part ts mid o o (part-as-statement room d (λ _. mark) ∙ read-statement room d (λ _. mark))) front k o
      ∙ part-as-statement room d _ ∙ read-statement room d _ ∙ read-said room ds _ k
      ∙ ap (λ xs. reads room rest (many r.Part xs k) o) (append_assoc front (Said x ∷ []) (map (λ y. Said y) xs))

  -- cases of a switch that are spelled so are read so, after those read before
  read-cases : (room : ℕ → Bool) {X : Type 0} {o : ℕ} {xs : List (List s.Choice × List s.Statement)} {ts rest : List Lexeme} → Cases room o xs ts rest
      → No (starts r.Part) rest → (front : List SwitchPart) (k : List SwitchPart → Plan X)
      → reads room ts (many r.Part front k) o ≡ reads room rest (k (front ++ parts_of xs)) o
  read-cases room {o = o} (last_case {rest = rest}) h front k =
      many-no room rest r.Part h front k o ∙ ap (λ xs. reads room rest (k xs) o) (sym (append-nil front))
  read-cases room {o = o} {rest = rest} (one_more_case {x = x} {xs = xs} {ys = ys} {cs = cs} {ts = ts} {body = body} c ds d ss) h front k =
      many-yes room ts r.Part (there room r.Part ts body o o (read-part-head room c ds (λ _. mark) o)) front k o
      ∙ read-part-head room c ds _ o ∙ read-said room d _ k ∙ read-cases room ss h _ k
      ∙ ap (λ xs. reads room rest (k xs) o)
      (append_assoc (front ++ Head (x ∷ xs) ∷ []) (map (λ y. Said y) ys) (parts_of cs)
      ∙ append_assoc front (Head (x ∷ xs) ∷ []) (map (λ y. Said y) ys ++ parts_of cs))

  read-first-case : (room : ℕ → Bool) {X : Type 0} {o : ℕ} {xs : List (List s.Choice × List s.Statement)} {ts rest : List Lexeme} → Cases room o xs ts rest
      → No (starts r.Part) rest × No (starts r.Choice) rest → (x : Expression) (k : s.Statement → Plan X)
      → reads room ts (cases_after x >>= k) o
      ≡ reads room rest (default_after x xs >>= k) o
  read-first-case room {o = o} (last_case {rest = rest}) h x k = maybe-no room rest r.Choice h.1 _ _ o
  read-first-case room {o = o} {rest = rest} (one_more_case {x = c} {xs = cs} {ys = ys} {cs = more} {ts = ts} {mid = mid} d ds ss es) h x k =
      maybe-yes room ts r.Choice (there room r.Choice ts mid o o (read-choice room d (λ _. mark) o)) _ _ o
      ∙ read-head room d ds _ o ∙ read-said room ss _ _ ∙ read-cases room es h.0 _ _
      ∙ ap (λ xs. reads room rest (default_after x xs >>= k) o) (cases-back (c ∷ cs) ys more)

  read-default : (room : ℕ → Bool) {X : Type 0} {o : ℕ} {other : Option (List s.Statement)} {ts rest : List Lexeme}
      → DefaultIfAny room o other ts (Sign RightBrace ∷ rest)
      → (x : Expression) (xs : List (List s.Choice × List s.Statement)) (k : s.Statement → Plan X)
      → reads room ts (default_after x xs >>= k) o ≡ reads room rest (k (s.Switch x (cases_tree xs) (s.default other))) (one_less o)
  read-default room no_default x xs k = refl
  read-default room (a_default ys) x xs k = read-statements room ys refl [] _
