-- In a statement that leaves, no list of statements stands.
use Rattle.std.proofs.Common.{◌≡◌, true, refl}
use Rattle.inform_tree.specs.Statements as s
use Rattle.inform_tree.specs.Statements.{Statement}
use Rattle.inform_simplify.specs.Redexes.{leaves}
use Rattle.inform_simplify.specs.Simplifying.{is_leaf}

-- each of the six is such a statement
pub leaving-leaf : (x : Statement) → leaves x ≡ true → is_leaf x ≡ true
leaving-leaf s.Break is = refl
leaving-leaf s.Continue is = refl
leaving-leaf s.Quit is = refl
leaving-leaf s.Rtrue is = refl
leaving-leaf s.Rfalse is = refl
leaving-leaf (s.Return x) is = refl
leaving-leaf s.Empty is = refl
leaving-leaf (s.Assign x) is = refl
leaving-leaf (s.Call name xs) is = refl
leaving-leaf s.NewLine is = refl
leaving-leaf (s.Print xs) is = refl
leaving-leaf (s.Read line words) is = refl
leaving-leaf (s.Block body) is = is
leaving-leaf (s.If x body other) is = is
leaving-leaf (s.While x body) is = is
leaving-leaf (s.Do body x) is = is
leaving-leaf (s.For first x change body) is = is
leaving-leaf (s.Switch x xs rest) is = is
