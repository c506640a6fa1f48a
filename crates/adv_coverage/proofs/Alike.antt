-- That the program of a game counts the lines of the game: for the law that says so.
use Rattle.std.proofs.Common.{◌≡◌, ◌∙◌, ℕ, zero, suc, ◌+◌, ◌^◌, ◌<◌, ◌≤◌, min, Bool, true, false, cond, List, [], ◌∷◌, ◌++◌, length, replicate, take, drop, Option, Some, None, if◌then◌else◌, refl, sym, ap, arith, decimal}
use Rattle.std.specs.Prelude.{◌==◌, ◌&&◌, not, nat_eq, nat_lt, codes, slice_get, filter}
use Rattle.std.specs.List.{list_all, filter_map, cons_option, starts_with}
use Rattle.std.specs.Option.{option_and_then}
use Rattle.std.specs.Str.Parse.{digits_value}
use Rattle.std.specs.Str.{bytes_eq}
use Rattle.std.proofs.lemmas.Bool.{eq-eqb, eqb-true}
use Rattle.std.proofs.lemmas.Bool.Decides.{Decides-eqb, nat_tests}
use Rattle.std.proofs.lemmas.List.{length-replicate, length-append}
use Rattle.std.proofs.lemmas.Slice.Eq.{bytes_eq-Decides, starts_is}
use Rattle.adv_counts.specs.Counts.{GREATEST, count_of, counted, times}
use Rattle.adv_counts.specs.Laws.{CountsRise, CountsStay}
use Rattle.inform_entered.specs.Laws.{number_at}
use Rattle.inform_names.specs.declared.meanings.Kind.{Kind}
use Rattle.inform_names.specs.declared.meanings.Meaning.{Meaning}
use Rattle.inform_names.specs.Acceptance.{is_routine, name_fault}
use Rattle.inform_names.specs.Laws.{IsMeaningOf, MeaningsAreOfDirectives, NamesMeanTheirDirectives}
use Rattle.inform_names.specs.Meanings.{Known, meanings, name_of, kind_of}
use Rattle.inform_tree.specs.declared.widths.Width.{Width}
use Rattle.inform_tree.specs.Programs as d
use Rattle.inform_tree.specs.Programs.{DirectiveTree, RoutineTree}
use Rattle.scott_types.specs.declared.states.State.{State}
use Rattle.scott_types.specs.Database.{Database}
use Rattle.trans_specs.specs.Directives.{data_directives}
use Rattle.trans_specs.specs.Laws.{LinesAreNumbered}
use Rattle.trans_specs.specs.Names.{line_name, number_said, line_number}
use Rattle.trans_specs.specs.Shaped.{Shaped, is_declaration, declarations}
use Rattle.adv_coverage.specs.declared.reports.TheConstants.{LINE_LIMIT}
use Rattle.adv_coverage.specs.Alike.{LinesCountAlike}
use Rattle.adv_coverage.specs.Lines.{routine_count, counts_of_lines, line_counts}
use Rattle.adv_coverage.specs.Report.{line_text, lines_text, lines_run, report_text}
use Rattle.adv_coverage.proofs.LineByLine.{no_line, one_line}

-- ---- lists with the same counts have the same report

abbrev SameCounts : List ℕ → List ℕ → Type 0
SameCounts xs ys = (k : ℕ) → count_of xs k ≡ count_of ys k

-- lists of the same counts have the same lines in their reports
same_lines : (line : ℕ) (xs ys : List ℕ) → SameCounts xs ys
    → lines_text line xs ≡ lines_text line ys
same_lines line [] [] h = refl
same_lines line [] (y ∷ ys) h =
    same_lines (line + 1) [] ys (λ k. h (suc k))
    ∙ ap (λ c. line_text line c ++ lines_text (line + 1) ys) (h 0)
same_lines line (x ∷ xs) [] h =
    ap (λ c. line_text line c ++ lines_text (line + 1) xs) (h 0)
    ∙ same_lines (line + 1) xs [] (λ k. h (suc k))
same_lines line (x ∷ xs) (y ∷ ys) h =
    ap (λ c. line_text line c ++ lines_text (line + 1) xs) (h 0)
    ∙ ap (λ rest. line_text line y ++ rest) (same_lines (line + 1) xs ys (λ k. h (suc k)))

one_run : (test : Bool) (y : ℕ) (xs ys : List ℕ) → length xs ≡ length ys
    → length (cond test (y ∷ xs) xs) ≡ length (cond test (y ∷ ys) ys)
one_run true y xs ys same = ap suc same
one_run false y xs ys same = same

same_run : (xs ys : List ℕ) → SameCounts xs ys → lines_run xs ≡ lines_run ys
same_run [] [] h = refl
same_run [] (y ∷ ys) h =
    same_run [] ys (λ k. h (suc k)) ∙ ap (λ c. lines_run (c ∷ ys)) (h 0)
same_run (x ∷ xs) [] h =
    ap (λ c. lines_run (c ∷ xs)) (h 0) ∙ same_run xs [] (λ k. h (suc k))
same_run (x ∷ xs) (y ∷ ys) h =
    ap (λ c. lines_run (c ∷ xs)) (h 0)
    ∙ one_run (nat_lt 0 y) y (filter (λ c. nat_lt 0 c) xs) (filter (λ c. nat_lt 0 c) ys)
    (same_run xs ys (λ k. h (suc k)))

pub same_reports : (xs ys : List ℕ) → SameCounts xs ys → report_text xs ≡ report_text ys
same_reports xs ys h =
    ap (λ text. 10 ∷ (text ++ (codes "lines run: " ++ (decimal (lines_run xs) ++ 10 ∷ []))))
    (same_lines 0 xs ys h)
    ∙ ap (λ n. 10 ∷ (lines_text 0 ys ++ (codes "lines run: " ++ (decimal n ++ 10 ∷ []))))
    (same_run xs ys h)

-- ---- the counts of a list

behind : (xs : List ℕ) (k : ℕ) → length xs ≤ k → count_of xs k ≡ 0
behind [] k far = refl
behind (x ∷ xs) zero far = absurd (omega (arith, far))
behind (x ∷ xs) (suc k) far = behind xs k (omega (arith, far))

before : (xs ys : List ℕ) (k : ℕ) → k < length xs → count_of (xs ++ ys) k ≡ count_of xs k
before [] ys k near = absurd (omega (arith, near))
before (x ∷ xs) ys zero near = refl
before (x ∷ xs) ys (suc k) near = before xs ys k (omega (arith, near))

last : (xs : List ℕ) (v : ℕ) → count_of (xs ++ v ∷ []) (length xs) ≡ v
last [] v = refl
last (x ∷ xs) v = last xs v

zeros : (n k : ℕ) → count_of (replicate n 0) k ≡ 0
zeros zero k = refl
zeros (suc n) zero = refl
zeros (suc n) (suc k) = zeros n k

-- ---- the counts of the routines of lines

module _ (known : Known) (counts : List ℕ) where
  -- there are as many counts as lines were asked for
  so_many : (n : ℕ) → length (counts_of_lines known counts n) ≡ n
  so_many zero = ap length (no_line known counts)
  so_many (suc n) =
      let more = one_line known counts n in
      let one : length (counts_of_lines known counts (n + 1))
      ≡ length (counts_of_lines known counts n) + 1 =
      ap length more
      ∙ length-append (counts_of_lines known counts n) (routine_count counts (known (line_name n)) ∷ [])
      in
      let next : suc n ≡ n + 1 = omega arith in
      let so = so_many n in
      ap (λ m. length (counts_of_lines known counts m)) next ∙ one ∙ omega (arith, so)

  -- the count of a line is that of the routine with its name
  pub of_line : (n k : ℕ) → k < n
      → count_of (counts_of_lines known counts n) k ≡ routine_count counts (known (line_name k))
  of_line zero k near = absurd (omega (arith, near))
  of_line (suc n) k near = by (nat_lt k n) refl (of_line n k)
    where
      list : List ℕ
      list = counts_of_lines known counts n

      value : ℕ
      value = routine_count counts (known (line_name n))

      grown : counts_of_lines known counts (suc n) ≡ list ++ value ∷ []
      grown =
          let next : suc n ≡ n + 1 = omega arith in
          ap (counts_of_lines known counts) next ∙ one_line known counts n

      by : (b : Bool) → nat_lt k n ≡ b
          → (k < n → count_of list k ≡ routine_count counts (known (line_name k)))
          → count_of (counts_of_lines known counts (suc n)) k
          ≡ routine_count counts (known (line_name k))
      by true e earlier =
          let less : k < n = grind (arith, nat_tests, e) in
          let so = so_many n in
          ap (λ xs. count_of xs k) grown ∙ before list (value ∷ []) k (omega (arith, less, so))
          ∙ earlier less
      by false e earlier =
          let same : k ≡ n = grind (arith, nat_tests, e, near) in
          ap (λ xs. count_of xs k) grown
          ∙ ap (count_of (list ++ value ∷ [])) (same ∙ sym (so_many n)) ∙ last list value
          ∙ ap (λ j. routine_count counts (known (line_name j))) (sym same)

  pub of_none : (n k : ℕ) → n ≤ k → count_of (counts_of_lines known counts n) k ≡ 0
  of_none n k far =
      let so = so_many n in behind (counts_of_lines known counts n) k (omega (arith, far, so))

-- ---- how often a number is among those that others have

module _ (f : ℕ → Option ℕ) (k : ℕ) where
  -- a number that no element has occurs nowhere among those that elements have
  none : ((e : ℕ) → f e ≡ Some k → ⊥) → (es : List ℕ) → times k (filter_map f es) ≡ 0
  none never [] = refl
  none never (e ∷ es) = by (f e) refl (none never es)
    where
      by : (o : Option ℕ) → f e ≡ o → times k (filter_map f es) ≡ 0
          → times k (cons_option o (filter_map f es)) ≡ 0
      by None is rest = rest
      by (Some j) is rest = other (j == k) refl
        where
          other : (b : Bool) → (j == k) ≡ b
              → (if b then times k (filter_map f es) + 1 else times k (filter_map f es)) ≡ 0
          other true same =
              let e : j ≡ k = eqb-true j k same in absurd (never _ (is ∙ ap Some e))
          other false differ = rest

  module _ (a : ℕ) (only : (e : ℕ) → f e ≡ Some k → e ≡ a) (it : f a ≡ Some k) where
    as_often : (es : List ℕ) → times k (filter_map f es) ≡ times a es
    as_often [] = refl
    as_often (e ∷ es) = by (e == a) refl (as_often es)
      where
        by : (b : Bool) → (e == a) ≡ b → times k (filter_map f es) ≡ times a es
            → times k (filter_map f (e ∷ es)) ≡ (if b then times a es + 1 else times a es)
        by true same rest =
            let same_e : e ≡ a = eqb-true e a same in
            let found : f e ≡ Some k = ap f same_e ∙ it in
            let k_is : (k == k) ≡ true = eq-eqb k k refl in
            ap (λ o. times k (cons_option o (filter_map f es))) found
            ∙ ap (λ b. if b then times k (filter_map f es) + 1 else times k (filter_map f es)) k_is
            ∙ ap (λ n. n + 1) rest
        by false differ rest = left (f e) refl
          where
            left : (o : Option ℕ) → f e ≡ o
                → times k (cons_option o (filter_map f es)) ≡ times a es
            left None is = rest
            left (Some j) is = other (j == k) refl
              where
                other : (b : Bool) → (j == k) ≡ b
                    → (if b then times k (filter_map f es) + 1 else times k (filter_map f es))
                    ≡ times a es
                other true same =
                    let j_is : j ≡ k = eqb-true j k same in
                    let e_is : e ≡ a = only e (is ∙ ap Some j_is) in
                    let yes : (e == a) ≡ true = eq-eqb e a e_is in
                    let impossible : true ≡ false = sym yes ∙ differ in absurd cc
                other false differs = rest

-- ---- the names of lines

-- a text that is how a number is written
written : (digits : List ℕ) (k : ℕ) → number_said digits ≡ Some k → digits ≡ decimal k
written digits k e = by (bytes_eq digits (decimal (digits_value 10 digits))) refl e
  where
    by : (b : Bool) → bytes_eq digits (decimal (digits_value 10 digits)) ≡ b
        → (if b then Some (digits_value 10 digits) else None) ≡ Some k → digits ≡ decimal k
    by true same e =
        let n : digits_value 10 digits ≡ k = cc in
        (bytes_eq-Decides digits (decimal (digits_value 10 digits))).0 same ∙ ap decimal n
    by false differ e = absurd cc

-- the name that has the number of a line is that of its routine
named : (name : List ℕ) (k : ℕ) → line_number name ≡ Some k → name ≡ line_name k
named name k e = by (starts_with nat_eq name (codes "line_")) refl e
  where
    by : (b : Bool) → starts_with nat_eq name (codes "line_") ≡ b
        → (if b then number_said (drop (length (codes "line_")) name) else None) ≡ Some k
        → name ≡ line_name k
    by true begins said =
        (starts_is Decides-eqb name (codes "line_") _ refl).0 begins
        ∙ ap (λ rest. codes "line_" ++ rest) (written (drop (length (codes "line_")) name) k said)
    by false differs said = absurd cc

same_number : LinesAreNumbered → (j k : ℕ) → j < 2 ^ 64 → k < 2 ^ 64 → line_name j ≡ line_name k
    → j ≡ k
same_number numbered j k small other e =
    let both : Some j ≡ Some k = sym (numbered j small) ∙ ap line_number e ∙ numbered k other in cc

-- ---- declarations aren't lines

abbrev is_other : DirectiveTree → Bool
is_other directive = not (starts_with nat_eq (name_of directive) (codes "line_"))

others : (db : Database) (s : State) → list_all is_other (data_directives db s) ≡ true
others db s = refl

-- where no declaration of a program has the name of a line, none at any place has
one_of : (xs : List DirectiveTree) (at : ℕ) (x : DirectiveTree)
    → list_all is_other (declarations xs) ≡ true → slice_get xs at ≡ Some x
    → is_declaration x ≡ true → is_other x ≡ true
one_of [] at x all is declared = absurd cc
one_of (y ∷ xs) zero x all is declared =
    let same : y ≡ x = cc in
    let kept : is_declaration y ≡ true = ap is_declaration same ∙ declared in
    let here : (is_other y && list_all is_other (declarations xs)) ≡ true =
    ap (λ b. list_all is_other (cond b (y ∷ declarations xs) (declarations xs))) (sym kept) ∙ all in
    ap is_other (sym same) ∙ first (is_other y) (list_all is_other (declarations xs)) here
  where
    first : (a b : Bool) → (a && b) ≡ true → a ≡ true
    first true b e = refl
    first false b e = absurd cc
one_of (y ∷ xs) (suc at) x all is declared =
    one_of xs at x (rest (is_declaration y) all) is declared
  where
    second : (a b : Bool) → (a && b) ≡ true → b ≡ true
    second true b e = e
    second false b e = absurd cc

    rest : (b : Bool) → list_all is_other (cond b (y ∷ declarations xs) (declarations xs)) ≡ true
        → list_all is_other (declarations xs) ≡ true
    rest true e = second (is_other y) (list_all is_other (declarations xs)) e
    rest false e = e

-- ---- a program that has the shape of a game

module _ (of_directives : MeaningsAreOfDirectives) (themselves : NamesMeanTheirDirectives)
    (numbered : LinesAreNumbered) (rise : CountsRise) (stay : CountsStay)
    (width : Width) (db : Database) (s : State) (p : List DirectiveTree) (entered : List ℕ)
    (sound : name_fault width p ≡ None) (shaped : Shaped db s p)
    (few : length db.actions ≤ LINE_LIMIT) where
  abbrev known : Known
  known = meanings width p

  abbrev number : ℕ → Option ℕ
  number = number_at line_number p

  abbrev of_directive : List ℕ
  of_directive = counted entered (replicate (length p) 0)

  abbrev lines : List ℕ
  lines = filter_map number entered

  abbrev tried : List ℕ
  tried = counted lines (replicate (length db.actions) 0)

  abbrev meaning_at : ℕ → Kind → Meaning
  meaning_at at kind = record { at = at; kind = kind }

  -- a directive that has the number of a line is the one that the line's name means
  numbered_means : (at k : ℕ) → number at ≡ Some k
      → (kind : Kind) × (known (line_name k) ≡ Some (meaning_at at kind))
  numbered_means at k e = by (slice_get p at) refl e
    where
      by : (o : Option DirectiveTree) → slice_get p at ≡ o
          → option_and_then (λ x. line_number (name_of x)) o ≡ Some k
          → (kind : Kind) × (known (line_name k) ≡ Some (meaning_at at kind))
      by None is e = absurd cc
      by (Some x) is e = (
        kind_of width (meanings width (take at p)) x,
        ap known (sym (named (name_of x) k e)) ∙ themselves width p at x sound is,
      )

  -- a line that means nothing has no directive with its number
  nobody : (k : ℕ) → known (line_name k) ≡ None → (at : ℕ) → number at ≡ Some k → ⊥
  nobody k none at e = let m = numbered_means at k e in let f = m.1 in absurd cc

  only_it : (k : ℕ) (m : Meaning) → known (line_name k) ≡ Some m → (at : ℕ) → number at ≡ Some k
      → at ≡ m.at
  only_it k m means at e =
      let own = numbered_means at k e in
      let both : Some (meaning_at at own.0) ≡ Some m = sym own.1 ∙ means in
      let same : meaning_at at own.0 ≡ m = cc in
      ap (λ (x : Meaning). x.at) same

  -- what a line's name means is its routine
  routine_of : (k : ℕ) (m : Meaning) → known (line_name k) ≡ Some m
      → (r : RoutineTree) × (slice_get p m.at ≡ Some (d.Routine r)) × (r.name ≡ line_name k)
      × (is_routine m.kind ≡ true)
  routine_of k m means =
      let of = of_directives width p (line_name k) m means in by of.0 of.1
    where
      undeclared : (x : DirectiveTree) → slice_get p m.at ≡ Some x → name_of x ≡ line_name k
          → is_declaration x ≡ true → ⊥
      undeclared x is name declared =
          let off = one_of p m.at x
          (ap (list_all is_other) shaped.declared ∙ others db s) is declared in
          let on : is_other x ≡ false =
          ap (λ n. not (starts_with nat_eq n (codes "line_"))) name in
          let impossible : true ≡ false = sym off ∙ on in absurd cc

      by : (x : DirectiveTree) → IsMeaningOf width p (line_name k) m x
          → (r : RoutineTree) × (slice_get p m.at ≡ Some (d.Routine r)) × (r.name ≡ line_name k)
          × (is_routine m.kind ≡ true)
      by (d.Routine r) h = (r, h.0, h.1, ap is_routine h.2)
      by (d.Constant name x) h = absurd (undeclared _ h.0 h.1 refl)
      by (d.Global name x) h = absurd (undeclared _ h.0 h.1 refl)
      by (d.Array name words xs) h = absurd (undeclared _ h.0 h.1 refl)

  there : (at : ℕ) (x : DirectiveTree) (ds : List DirectiveTree) → slice_get ds at ≡ Some x
      → at < length ds
  there at x [] is = absurd cc
  there zero x (y ∷ ds) is = omega arith
  there (suc at) x (y ∷ ds) is = let less = there at x ds is in omega (arith, less)

  -- the count of a number among those that were counted
  risen : (numbers : List ℕ) (n k : ℕ) → k < n
      → count_of (counted numbers (replicate n 0)) k ≡ min (times k numbers) GREATEST
  risen numbers n k near =
      let long = length-replicate {A = ℕ} n 0 in
      let none = zeros n k in
      let plain : 0 + times k numbers ≡ times k numbers = omega arith in
      rise numbers (replicate n 0) k (omega (arith, near, long)) (omega (arith, none))
      ∙ ap (λ c. min (c + times k numbers) GREATEST) none ∙ ap (λ c. min c GREATEST) plain

  -- the count of a line that the game may have
  line_count : (k : ℕ) → k < 2 ^ 64
      → routine_count of_directive (known (line_name k)) ≡ min (times k lines) GREATEST
  line_count k small = by (known (line_name k)) refl
    where
      by : (o : Option Meaning) → known (line_name k) ≡ o
          → routine_count of_directive o ≡ min (times k lines) GREATEST
      by None means =
          ap (λ n. min n GREATEST) (sym (none number k (nobody k means) entered))
      by (Some m) means =
          let r = routine_of k m means in
          let it : number m.at ≡ Some k =
          ap (option_and_then (λ x. line_number (name_of x))) r.1
          ∙ ap line_number r.2 ∙ numbered k small in
          ap (λ b. if b then count_of of_directive m.at else 0) r.3
          ∙ risen entered (length p) m.at (there m.at _ p r.1)
          ∙ ap (λ n. min n GREATEST)
          (sym (as_often number k m.at (only_it k m means) it entered))

  -- a line that isn't there has no routine
  no_routine : (k : ℕ) → k < 2 ^ 64 → length db.actions ≤ k
      → routine_count of_directive (known (line_name k)) ≡ 0
  no_routine k small far = by (known (line_name k)) refl
    where
      by : (o : Option Meaning) → known (line_name k) ≡ o → routine_count of_directive o ≡ 0
      by None means = refl
      by (Some m) means =
          let r = routine_of k m means in
          let line = shaped.lines_only k r.0 (m.at, r.1) r.2 in
          let near = line.1.there in
          let same : line.0 ≡ k = same_number numbered line.0 k (omega (arith, near, few)) small
          (sym (ap (λ (x : RoutineTree). x.name) line.2) ∙ r.2) in
          absurd (omega (arith, near, same, far))

  -- each line's routine is counted as often as the line is among those that were entered
  same_counts : SameCounts (line_counts known of_directive) tried
  same_counts k = by (nat_lt k (length db.actions)) refl (nat_lt k LINE_LIMIT) refl
    where
      long : length tried ≡ length db.actions
      long = stay lines (replicate (length db.actions) 0) ∙ length-replicate (length db.actions) 0

      by : (line : Bool) → nat_lt k (length db.actions) ≡ line
          → (near : Bool) → nat_lt k LINE_LIMIT ≡ near
          → count_of (line_counts known of_directive) k ≡ count_of tried k
      by true is near e =
          let less : k < length db.actions = grind (arith, nat_tests, is) in
          of_line known of_directive LINE_LIMIT k (omega (arith, less, few))
          ∙ line_count k (omega (arith, less, few))
          ∙ sym (risen lines (length db.actions) k less)
      by false is true e =
          let far : length db.actions ≤ k = grind (arith, nat_tests, is) in
          let near : k < LINE_LIMIT = grind (arith, nat_tests, e) in
          of_line known of_directive LINE_LIMIT k near ∙ no_routine k (omega (arith, near)) far
          ∙ sym (behind tried k (omega (arith, far, long)))
      by false is false e =
          let far : length db.actions ≤ k = grind (arith, nat_tests, is) in
          let none : LINE_LIMIT ≤ k = grind (arith, nat_tests, e) in
          of_none known of_directive LINE_LIMIT k none
          ∙ sym (behind tried k (omega (arith, far, long)))

pub lines_count_alike : MeaningsAreOfDirectives → NamesMeanTheirDirectives → LinesAreNumbered
    → CountsRise → CountsStay → LinesCountAlike
lines_count_alike of_directives themselves numbered rise stay width db s p entered sound shaped few =
    same_reports _ _
    (same_counts of_directives themselves numbered rise stay width db s p entered sound shaped few)
