-- The routines of lines call no line and no group.
use Rattle.std.proofs.Common.{◌≡◌, arith, ℕ, ℤ, pos, negsuc, nat_eq, Bool, true, false, List, [], ◌∷◌, refl}
use Rattle.std.specs.List.{AllByRecursion, list_all}
use Rattle.std.proofs.lemmas.Bool.{and_parts}
use Rattle.inform_tree.specs.declared.widths.Width.TheVariants.{W32}
use Rattle.inform_tree.specs.Statements.{statements}
use Rattle.inform_tree.specs.Programs.{DirectiveTree}
use Rattle.inform_names.specs.Demands as q
use Rattle.inform_names.specs.Demands.{Demand, Demands, statements_demands, no_loop}
use Rattle.inform_codes.specs.Grown.{body_of}
use Rattle.inform_codes.specs.Routines.{row_routine}
use Rattle.scott_types.specs.declared.parts.Action.{Action}
use Rattle.scott_types.specs.declared.styles.Style.{Style}
use Rattle.scott_types.specs.Database.{Database}
use Rattle.trans_specs.specs.Names.{group_name, line_name}
use Rattle.trans_specs.specs.Lines.{line_body}
use Rattle.trans_specs.specs.Laws.{NoneWideAt32, HasWords, LinesHaveWords}
use Rattle.trans_specs.specs.Shaped.{demand_calls, demands_calls, routine_calls, directive_calls, program_calls}
use Rattle.trans_specs.proofs.Lists.{one_of_all, of_both}
use Rattle.trans_actions.specs.declared.table.Kind.TheVariants.{Condition, Opcode}
use Rattle.trans_actions.specs.Names.{action_names, numbers}
use Rattle.trans_actions.specs.Helpers.{Helper, conditions, opcodes, refill, uses, helper_directives}
use Rattle.trans_actions.specs.Directives.{line_directives, action_directives}
use Rattle.trans_actions.specs.Parts.{ActionsCallNone}
use Rattle.trans_actions.proofs.Demanded.{all_pass, PassesCalls, lines_demand}
use Rattle.trans_actions.proofs.LinesIn.{each_line}
use Rattle.trans_actions.proofs.UsedRows.{each_helper, each_by}

-- ---- from each to all

is_zero : (n : ℕ) → nat_eq n 0 ≡ true → n ≡ 0
is_zero n h = grind (arith, h)

none_in_all : (name : List ℕ) (ds : List DirectiveTree)
    → AllByRecursion (λ x. directive_calls name x ≡ 0) ds → program_calls name ds ≡ 0
none_in_all name [] h = refl
none_in_all name (x ∷ xs) h = omega (arith, h.0, none_in_all name xs h.1)

-- a demand that is no call of this name
abbrev is_none_of : List ℕ → Demand → Bool
is_none_of name demand = nat_eq (demand_calls name demand) 0

none_of_all : (name : List ℕ) (demands : Demands) → all_pass (is_none_of name) demands ≡ true
    → demands_calls name demands ≡ 0
none_of_all name q.Nothing h = refl
none_of_all name (q.One demand) h = is_zero (demand_calls name demand) h
none_of_all name (q.Both first rest) h = let
    parts = and_parts (all_pass (is_none_of name) first) (all_pass (is_none_of name) rest) h in
    omega (arith, none_of_all name first parts.0, none_of_all name rest parts.1)

-- ---- the name of a line, and that of a group

abbrev name_by : Bool → ℕ → List ℕ
name_by true k = line_name k
name_by false k = group_name k

-- numbers, and calls of conditions, opcodes and messages, are no calls of a line or of a group
passes_calls : (line : Bool) (k : ℕ) (db : Database)
    → PassesCalls W32 db (is_none_of (name_by line k))
passes_calls true k db = record {
  numbers = λ n h. refl;
  conditions = λ code less used other. refl;
  opcodes = λ n used called. refl;
  gets = λ n used get. refl;
  messages = λ m there. refl;
}
passes_calls false k db = record {
  numbers = λ n h. refl;
  conditions = λ code less used other. refl;
  opcodes = λ n used called. refl;
  gets = λ n used get. refl;
  messages = λ m there. refl;
}

-- a routine of a table calls none of that name
abbrev calls_none : Style → Database → List ℕ → Helper → Bool
calls_none style db name h =
    nat_eq (routine_calls name (row_routine (action_names style) (numbers db) h.1)) 0

conditions_call : (style : Style) (db : Database) (line : Bool) (k : ℕ)
    → list_all (calls_none style db (name_by line k)) conditions ≡ true
unfolding body_of action_names
conditions_call style db true k = refl
conditions_call style db false k = refl

opcodes_call : (style : Style) (db : Database) (line : Bool) (k : ℕ)
    → list_all (calls_none style db (name_by line k)) opcodes ≡ true
unfolding body_of action_names
opcodes_call style db true k = refl
opcodes_call style db false k = refl

refill_calls : (style : Style) (db : Database) (line : Bool) (k : ℕ) (light : ℤ)
    → list_all (calls_none style db (name_by line k)) (refill light) ≡ true
unfolding body_of action_names
refill_calls style db true k (pos n) = refl
refill_calls style db true k (negsuc n) = refl
refill_calls style db false k (pos n) = refl
refill_calls style db false k (negsuc n) = refl

module _ (style : Style) (db : Database) (line : Bool) (k : ℕ)
    (words : AllByRecursion (HasWords W32) db.actions) where
  abbrev CallsNone : DirectiveTree → Type 0
  CallsNone x = directive_calls (name_by line k) x ≡ 0

  by_test : (h : Helper) → calls_none style db (name_by line k) h ≡ true
      → routine_calls (name_by line k) (row_routine (action_names style) (numbers db) h.1) ≡ 0
  by_test h is =
      is_zero (routine_calls (name_by line k) (row_routine (action_names style) (numbers db) h.1))
      is

  helpers_call : AllByRecursion CallsNone (helper_directives style db)
  helpers_call = each_helper style db CallsNone (record {
    conditions = each_by style db CallsNone (uses Condition db)
        (calls_none style db (name_by line k)) by_test conditions
        (conditions_call style db line k);
    opcodes = each_by style db CallsNone (uses Opcode db) (calls_none style db (name_by line k))
        by_test opcodes (opcodes_call style db line k);
    refill = each_by style db CallsNone (uses Opcode db) (calls_none style db (name_by line k))
        by_test (refill db.header.light) (refill_calls style db line k db.header.light);
  })

  abbrev BodyPasses : Action → Type 0
  BodyPasses a = all_pass (is_none_of (name_by line k))
      (statements_demands no_loop (statements (line_body db a))) ≡ true

  lines_call : AllByRecursion CallsNone (line_directives db)
  lines_call = each_line db CallsNone (λ j has. none_of_all (name_by line k) _
      (one_of_all BodyPasses db.actions j (record { vocab = 0; conds = []; pairs = [] })
      (lines_demand W32 db (is_none_of (name_by line k)) words (passes_calls line k db)) has.there))

  all_call : program_calls (name_by line k) (action_directives style db) ≡ 0
  all_call = none_in_all (name_by line k) (action_directives style db) (of_both CallsNone
      (helper_directives style db) (line_directives db) helpers_call lines_call)

pub actions_call_none : LinesHaveWords → NoneWideAt32 → ActionsCallNone
actions_call_none have_words narrow style db k limits = let
    words : AllByRecursion (HasWords W32) db.actions = have_words W32 db (narrow db limits) in
    (all_call style db true k words, all_call style db false k words)
