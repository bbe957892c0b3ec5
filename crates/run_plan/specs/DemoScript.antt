-- The queries of the demo.
use Rattle.std.specs.Prelude.{ℕ, ◌+◌, List, ◌++◌, codes}

-- the queries, in order
unfoldable pub demo_script : List ℕ
demo_script =
    codes "SELECT p.id, s.qty FROM part p, sale s WHERE p.id = s.part AND p.kind = 3 ORDER BY p.id; "
    ++ codes "SELECT p.id, s.qty, t.held FROM sale s, part p, stock t "
    ++ codes "WHERE s.part = p.id AND t.part = p.id AND t.held < 5; "
    ++ codes "SELECT s.qty FROM part p, sale s WHERE p.id = s.part AND 10 * p.kind < s.qty"
