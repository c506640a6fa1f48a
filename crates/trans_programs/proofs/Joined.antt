-- Lists of directives one after the other.
use Rattle.std.proofs.Common.{◌≡◌, ◌∙◌, List, ◌++◌, map, Option, Some, None, unwrap_or, sym, ap, append_assoc}
use Rattle.inform_tree.specs.Programs.{DirectiveTree}
use Rattle.scott_types.specs.declared.states.State.{State}
use Rattle.scott_types.specs.declared.styles.Style.{Style}
use Rattle.scott_types.specs.declared.endings.Position.{Position}
use Rattle.scott_types.specs.declared.endings.Position.TheVariants.{Fresh, Line}
use Rattle.scott_types.specs.Database.{Database}
use Rattle.scott_types.specs.State.{start}
use Rattle.trans_specs.specs.Directives.{data_directives}
use Rattle.trans_data.specs.Texts.{text_directives}
use Rattle.trans_words.specs.Directives.{word_directives}
use Rattle.trans_actions.specs.Directives.{action_directives}
use Rattle.trans_turn.specs.Routines.{turn_directives}
use Rattle.trans_programs.specs.Programs.{game_program}

-- the tables with the texts, and then the reader, the lines and the turn
pub tables_then : {X : Type 0} (f : X → DirectiveTree)
    (tables texts words lines turn : List DirectiveTree)
    (of_tables of_words of_lines of_turn playing speaking all : List X)
    → map f of_tables ≡ tables ++ texts → map f of_words ≡ words → map f of_lines ≡ lines
    → map f of_turn ≡ turn → map f playing ≡ map f of_lines ++ map f of_turn
    → map f speaking ≡ map f of_words ++ map f playing
    → map f all ≡ map f of_tables ++ map f speaking
    → map f all ≡ tables ++ (texts ++ (words ++ (lines ++ turn)))
tables_then f tables texts words lines turn of_tables of_words of_lines of_turn playing speaking all
    h1 h2 h3 h4 h5 h6 h7 =
    h7 ∙ rw (h6, h5, h1, h2, h3, h4) (append_assoc tables texts (words ++ (lines ++ turn)))

-- ---- by where a game opens

abbrev all_of : Style → Database → State → Position → List DirectiveTree
all_of style db s begin = data_directives db s ++ (text_directives style db
    ++ (word_directives db ++ (action_directives style db ++ turn_directives style db begin)))

pub begun : (style : Style) (db : Database) (from : Option State) (s : State) → from ≡ None
    → s ≡ start db → all_of style db s Fresh ≡ game_program style db from
begun style db None s none is = ap (λ s. all_of style db s Fresh) is
begun style db (Some other) s none is = cc

pub handed_in : (style : Style) (db : Database) (from : Option State) (s : State)
    → from ≡ Some s → all_of style db s Line ≡ game_program style db from
handed_in style db None s is = cc
handed_in style db (Some other) s is =
    ap (λ (o : Option State). all_of style db (unwrap_or o s) Line) (sym is)
