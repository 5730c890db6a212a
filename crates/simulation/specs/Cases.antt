-- Case F and the lettered cases of document 01 ("File and listing", "At the edges"), in one table, with one theorem on the
-- definitions. A case has the tables that it starts from, its calls, and what the paper says of them: the answers, and the runs,
-- the terms on the wire, the entries and the clock at the end. G, H and I start from tables that are handed in, as no list of
-- calls leads to them. "key" with a number is the session key of that number.
-- Assumes nothing.
use Rattle.std.specs.Prelude.{ℕ, ◌-◌, List, [], ◌∷◌, ◌++◌, map, length, replicate, Some, None, Ok, Err}
use Rattle.marks.specs.Marks.{size}
use Rattle.words.specs.declared.Term.{Term as Word}
use Rattle.words.specs.declared.Term.TheVariants as words
use Rattle.words.specs.Word.{word_of}
use Rattle.exchange.specs.Calls.{Answer}
use Rattle.exchange.specs.declared.call.Accepted.TheVariants.{New, Taken}
use Rattle.exchange.specs.declared.call.Call.{Call}
use Rattle.exchange.specs.declared.call.Call.TheVariants.{Term, Step}
use Rattle.replay.specs.Cache.{empty}
use Rattle.realm.specs.Tables.{Tables, tables}
use Rattle.effects.specs.Call.{called}

-- ---- what is played

-- "R runs, W the number of terms on the wire, C cache entries and the clock"
pub record End : Type 0 where
  pub runs : ℕ
  pub wire : ℕ
  pub entries : ℕ
  pub clock : ℕ

abbrev ends : (runs wire entries clock : ℕ) → End
ends runs wire entries clock = record { runs = runs; wire = wire; entries = entries; clock = clock }

pub record Played : Type 0 where
  pub answers : List Answer
  pub end : End

abbrev pub end_of : Tables → End
end_of t = ends t.realm.runs (size t.wire) t.realm.entries t.realm.clock

abbrev pub answers_of : Tables → List Call → List Answer
answers_of t [] = []
answers_of t (c ∷ cs) = (called t c).answer ∷ answers_of (called t c).tables cs

abbrev pub after_all : Tables → List Call → Tables
after_all t [] = t
after_all t (c ∷ cs) = after_all (called t c).tables cs

pub record Case : Type 0 where
  pub start : Tables
  pub calls : List Call
  pub says : Played

abbrev pub play : Case → Played
play c = record { answers = answers_of c.start c.calls; end = end_of (after_all c.start c.calls) }

-- ---- the tables that they start from

-- the words of these terms, and 0 in the places behind them
abbrev placed : List Word → List ℕ
placed xs = map word_of xs ++ replicate (512 - length xs) 0

-- a realm of 3 principals with no runs and no entries: these terms, and a wire of one word
abbrev handed : (flags ls la : ℕ) → List Word → (wire : ℕ) → Tables
handed flags ls la xs wire =
    tables (record { n = 3; rules = 0; flags = flags; ls = ls; la = la; clock = 0; terms = length xs; runs = 0; entries = 0 }) (placed xs)
    (replicate 448 0) (wire ∷ replicate 7 0) (replicate 16 empty)

-- "n 3, flags 0, Ls 100, La 10"
abbrev new : Tables
new = handed 0 100 10 [] 0

-- ---- the cases

-- from these tables the calls have these answers, and end so
abbrev case : Tables → List Call → List Answer → End → Case
case start calls answers end = record { start = start; calls = calls; says = record { answers = answers; end = end } }

-- "ST 1 (a 1, b 2); ST 3 (m 4); ST 4 (run 0, m 11); ST 2 (a 1, b 2); TM 5 (15, 16)"
abbrev exchanged : List Call
exchanged = Step 1 0 1 2 0 0 ∷ Step 3 0 0 0 4 0 ∷ Step 4 0 0 0 11 0 ∷ Step 2 0 1 2 0 0 ∷ Term 5 15 16 ∷ []

abbrev exchange_answers : List Answer
exchange_answers = Ok (Taken (Some 0) 5) ∷ Ok (Taken (Some 1) 11) ∷ Ok (Taken (Some 0) 1) ∷ Ok (Taken (Some 2) 0) ∷ Ok (New 17) ∷ []

-- "F": "its accepted steps add 5, 11, 1, 0, 1, 0 and 0 terms in turn"
abbrev f : Case
f =
    case new (exchanged ++ (Step 5 2 0 0 17 0 ∷ Step 6 0 0 0 18 0 ∷ Step 2 0 1 2 0 0 ∷ Step 5 3 0 0 17 0 ∷ []))
    (exchange_answers ++ (Ok (Taken (Some 2) 1) ∷ Ok (Taken (Some 0) 0) ∷ Ok (Taken (Some 3) 0) ∷ Err 18 ∷ [])) (ends 4 5 1 0)

-- "A: Ts 0, Ls 100: clock 99 passes, 100 gives 16."
abbrev a : (clock : ℕ) → Answer → (wire : ℕ) → Case
a clock answer wire =
    case new (Step 1 0 1 2 0 0 ∷ Step 3 0 0 0 4 0 ∷ Step 7 0 0 0 0 clock ∷ Step 4 0 0 0 11 0 ∷ []) (Ok (Taken (Some 0) 5) ∷ Ok (Taken (Some 1) 11) ∷ Ok (Taken None 0) ∷ answer ∷ []) (ends 2 wire 0 clock)

-- "B: Ta 0, La 10: clock 9 passes, 10 gives 17."
abbrev b : (clock : ℕ) → Answer → (wire entries : ℕ) → Case
b clock answer wire entries =
    case new (exchanged ++ (Step 7 0 0 0 0 clock ∷ Step 5 2 0 0 17 0 ∷ [])) (exchange_answers ++ (Ok (Taken None 0) ∷ answer ∷ [])) (ends 3 wire entries clock)

-- "C: that entry survives step 8 at clock 9 and goes at 10."
abbrev pub c : (clock entries : ℕ) → Case
c clock entries =
    case new (exchanged ++ (Step 5 2 0 0 17 0 ∷ Step 7 0 0 0 0 clock ∷ Step 8 0 0 2 0 0 ∷ [])) (exchange_answers ++ (Ok (Taken (Some 2) 1) ∷ Ok (Taken None 0) ∷ Ok (Taken None 0) ∷ [])) (ends 3 5 entries clock)

-- "D: step 7 to the same clock is accepted; one less gives 12."
abbrev d : Case
d = case new (Step 7 0 0 0 0 5 ∷ Step 7 0 0 0 0 5 ∷ Step 7 0 0 0 0 4 ∷ []) (Ok (Taken None 0) ∷ Ok (Taken None 0) ∷ Err 12 ∷ []) (ends 0 0 0 5)

-- "E: nothing on the wire: time 0 and a pair of two parties can be built, a good party's key cannot."
abbrev e : Case
e =
    case (handed 0 100 10 (words.Time 0 ∷ words.Principal 1 ∷ words.Principal 2 ∷ words.Pair 1 2 ∷ words.LongTermKey 1 ∷ []) 0)
    (Step 10 0 0 0 0 0 ∷ Step 10 0 0 0 3 0 ∷ Step 10 0 0 0 4 0 ∷ []) (Ok (Taken None 0) ∷ Ok (Taken None 0) ∷ Err 15 ∷ []) (ends 0 0 0 0)

-- "G: only {key 1}key 1 on the wire: key 1 cannot be built."
abbrev g : Case
g = case (handed 0 100 10 (words.SessionKey 1 ∷ words.Encrypted 0 0 ∷ []) 2) (Step 10 0 0 0 0 0 ∷ []) (Err 15 ∷ []) (ends 0 1 0 0)

-- "H: {key 2}key 1 and key 1 under a bad party's key: key 2 can be built." The bad principal is 2.
abbrev h : Case
h =
    case (handed 4 100 10 (words.SessionKey 1 ∷ words.SessionKey 2 ∷ words.Encrypted 1 0 ∷ words.LongTermKey 2 ∷ words.Encrypted 0 3 ∷ []) 20)
    (Step 10 0 0 0 1 0 ∷ []) (Ok (Taken None 0) ∷ []) (ends 0 2 0 0)

-- "I: only {nonce 0}key 1 on the wire: that lock can be built, nonce 0 cannot."
abbrev i : Case
i =
    case (handed 0 100 10 (words.Nonce 0 ∷ words.SessionKey 1 ∷ words.Encrypted 0 1 ∷ []) 4)
    (Step 10 0 0 0 2 0 ∷ Step 10 0 0 0 0 0 ∷ []) (Ok (Taken None 0) ∷ Err 15 ∷ []) (ends 0 1 0 0)

-- ---- the table and its theorem

abbrev pub table : List Case
table =
    f
    ∷ a 99 (Ok (Taken (Some 0) 3)) 4
    ∷ a 100 (Err 16) 3
    ∷ b 9 (Ok (Taken (Some 2) 1)) 5 1
    ∷ b 10 (Err 17) 4 0
    ∷ c 9 1
    ∷ c 10 0
    ∷ d
    ∷ e
    ∷ g
    ∷ h
    ∷ i
    ∷ []
