-- The twelve rows of docs/RULES.md, "Tables by hand", in its words and order. Start is state 0 and no state has the goal unless said.
-- Definitions only. Assumes nothing.
use Rattle.std.specs.Prelude.{List, [], ◌∷◌}
use Rattle.handtables.specs.HandRow.{HandRow, lasso, holds, stopped, ended}

-- 4 states, s to s and s to s+1 (3 to 0), goal 3
abbrev pub row_a : HandRow
row_a = record {
  table = record { rows = (0 ∷ 1 ∷ []) ∷ (1 ∷ 2 ∷ []) ∷ (2 ∷ 3 ∷ []) ∷ (0 ∷ 3 ∷ []) ∷ []; starts = 0 ∷ []; goals = 3 ∷ []; sets = [] };
  answer = lasso 0 0 (0 ∷ []);
  sizes = record { S = 40; E = 96; bytes = 616 };
  members = 0 ∷ 0 ∷ 0 ∷ 0 ∷ [];
  certificate = stopped ((8, 0) ∷ []) 0 0;
}

-- as a without the self edges
abbrev pub row_b : HandRow
row_b = record {
  table = record { rows = (1 ∷ []) ∷ (2 ∷ []) ∷ (3 ∷ []) ∷ (0 ∷ []) ∷ []; starts = 0 ∷ []; goals = 3 ∷ []; sets = [] };
  answer = holds;
  sizes = record { S = 40; E = 48; bytes = 424 };
  members = 0 ∷ 0 ∷ 0 ∷ 0 ∷ [];
  certificate = ended ((8, 0) ∷ (10, 1) ∷ (18, 1) ∷ (20, 2) ∷ (22, 3) ∷ (28, 3) ∷ (30, 4) ∷ (32, 5) ∷ (34, 6) ∷ (38, 6) ∷ (1, 7) ∷ (3, 8) ∷ (5, 9) ∷ (7, 10) ∷ (9, 10) ∷ (11, 11) ∷ (13, 12) ∷ (15, 13) ∷ (17, 14) ∷ (19, 15) ∷ (21, 16) ∷ (23, 17) ∷ (25, 18) ∷ (27, 19) ∷ (29, 20) ∷ (31, 21) ∷ (33, 22) ∷ (35, 23) ∷ (37, 24) ∷ (39, 25) ∷ []);
}

-- one state, self edge
abbrev pub row_c : HandRow
row_c = record {
  table = record { rows = (0 ∷ []) ∷ []; starts = 0 ∷ []; goals = []; sets = [] };
  answer = lasso 0 0 (0 ∷ []);
  sizes = record { S = 4; E = 6; bytes = 76 };
  members = 0 ∷ 0 ∷ 0 ∷ 0 ∷ [];
  certificate = stopped ((2, 0) ∷ []) 0 0;
}

-- as c with goal
abbrev pub row_d : HandRow
row_d = record {
  table = record { rows = (0 ∷ []) ∷ []; starts = 0 ∷ []; goals = 0 ∷ []; sets = [] };
  answer = holds;
  sizes = record { S = 4; E = 6; bytes = 76 };
  members = 0 ∷ 0 ∷ 0 ∷ 0 ∷ [];
  certificate = ended ((2, 0) ∷ (1, 1) ∷ (3, 1) ∷ []);
}

-- 0→0, 0→1, 1→1, set 0 = {1}
abbrev pub row_e : HandRow
row_e = record {
  table = record { rows = (0 ∷ 1 ∷ []) ∷ (1 ∷ []) ∷ []; starts = 0 ∷ []; goals = []; sets = (1 ∷ []) ∷ [] };
  answer = lasso 1 1 (0 ∷ 1 ∷ []);
  sizes = record { S = 24; E = 48; bytes = 344 };
  members = 1 ∷ 0 ∷ 0 ∷ 0 ∷ [];
  certificate = stopped ((8, 0) ∷ (0, 1) ∷ (12, 1) ∷ (20, 1) ∷ (13, 3) ∷ []) 3 17;
}

-- 0→1, 1→1, set 0 = {0}
abbrev pub row_f : HandRow
row_f = record {
  table = record { rows = (1 ∷ []) ∷ (1 ∷ []) ∷ []; starts = 0 ∷ []; goals = []; sets = (0 ∷ []) ∷ [] };
  answer = holds;
  sizes = record { S = 24; E = 32; bytes = 280 };
  members = 1 ∷ 0 ∷ 0 ∷ 0 ∷ [];
  certificate = ended ((8, 0) ∷ (13, 1) ∷ (20, 1) ∷ (16, 3) ∷ []);
}

-- 0→1, 1→0, set 0 = {0}, set 1 = {1}
abbrev pub row_g : HandRow
row_g = record {
  table = record { rows = (1 ∷ []) ∷ (0 ∷ []) ∷ []; starts = 0 ∷ []; goals = []; sets = (0 ∷ []) ∷ (1 ∷ []) ∷ [] };
  answer = lasso 1 0 (0 ∷ 1 ∷ []);
  sizes = record { S = 48; E = 64; bytes = 528 };
  members = 1 ∷ 1 ∷ 0 ∷ 0 ∷ [];
  certificate = stopped ((16, 0) ∷ (25, 1) ∷ (40, 1) ∷ []) 1 3;
}

-- 0→1, 1→0, 1→1
abbrev pub row_h : HandRow
row_h = record {
  table = record { rows = (1 ∷ []) ∷ (0 ∷ 1 ∷ []) ∷ []; starts = 0 ∷ []; goals = []; sets = [] };
  answer = lasso 1 0 (0 ∷ 1 ∷ []);
  sizes = record { S = 12; E = 24; bytes = 188 };
  members = 0 ∷ 0 ∷ 0 ∷ 0 ∷ [];
  certificate = stopped ((4, 0) ∷ (6, 1) ∷ (10, 1) ∷ []) 1 0;
}

-- 0→1, 1→2, 1→3, 2→1, 3→0
abbrev pub row_i : HandRow
row_i = record {
  table = record { rows = (1 ∷ []) ∷ (2 ∷ 3 ∷ []) ∷ (1 ∷ []) ∷ (0 ∷ []) ∷ []; starts = 0 ∷ []; goals = []; sets = [] };
  answer = lasso 2 0 (0 ∷ 1 ∷ 3 ∷ []);
  sizes = record { S = 40; E = 60; bytes = 472 };
  members = 0 ∷ 0 ∷ 0 ∷ 0 ∷ [];
  certificate = stopped ((8, 0) ∷ (10, 1) ∷ (18, 1) ∷ (20, 2) ∷ (30, 2) ∷ (22, 3) ∷ (28, 3) ∷ (32, 3) ∷ (38, 3) ∷ []) 4 0;
}

-- ring 0→1→2→3→0, each to 4, 4 to each of 0..3, goal 4
abbrev pub row_j : HandRow
row_j = record {
  table = record { rows = (1 ∷ 4 ∷ []) ∷ (2 ∷ 4 ∷ []) ∷ (3 ∷ 4 ∷ []) ∷ (0 ∷ 4 ∷ []) ∷ (0 ∷ 1 ∷ 2 ∷ 3 ∷ []) ∷ []; starts = 0 ∷ []; goals = 4 ∷ []; sets = [] };
  answer = lasso 3 0 (0 ∷ 1 ∷ 2 ∷ 3 ∷ []);
  sizes = record { S = 60; E = 168; bytes = 1004 };
  members = 0 ∷ 0 ∷ 0 ∷ 0 ∷ [];
  certificate = stopped ((10, 0) ∷ (12, 1) ∷ (22, 1) ∷ (48, 1) ∷ (58, 1) ∷ (24, 2) ∷ (26, 3) ∷ (34, 3) ∷ (50, 3) ∷ (1, 4) ∷ (13, 4) ∷ (25, 4) ∷ (37, 4) ∷ (9, 5) ∷ (11, 5) ∷ (21, 5) ∷ (23, 5) ∷ (33, 5) ∷ (35, 5) ∷ (45, 5) ∷ (47, 5) ∷ (36, 6) ∷ (38, 7) ∷ (40, 8) ∷ (46, 8) ∷ (52, 8) ∷ (3, 9) ∷ (15, 9) ∷ (27, 9) ∷ (39, 9) ∷ (49, 10) ∷ (57, 14) ∷ (59, 15) ∷ (51, 17) ∷ (41, 19) ∷ (53, 19) ∷ (7, 21) ∷ (55, 21) ∷ []) 21 0;
}

-- as c, no start
abbrev pub row_k : HandRow
row_k = record {
  table = record { rows = (0 ∷ []) ∷ []; starts = []; goals = []; sets = [] };
  answer = holds;
  sizes = record { S = 4; E = 6; bytes = 76 };
  members = 0 ∷ 0 ∷ 0 ∷ 0 ∷ [];
  certificate = ended [];
}

-- one state, self edge, m 4, member of no set
abbrev pub row_l : HandRow
row_l = record {
  table = record { rows = (0 ∷ []) ∷ []; starts = 0 ∷ []; goals = []; sets = [] ∷ [] ∷ [] ∷ [] ∷ [] };
  answer = holds;
  sizes = record { S = 64; E = 96; bytes = 736 };
  members = 0 ∷ 0 ∷ 0 ∷ 0 ∷ [];
  certificate = ended ((32, 0) ∷ (0, 1) ∷ []);
}

abbrev pub hand_rows : List HandRow
hand_rows = row_a ∷ row_b ∷ row_c ∷ row_d ∷ row_e ∷ row_f ∷ row_g ∷ row_h ∷ row_i ∷ row_j ∷ row_k ∷ row_l ∷ []
