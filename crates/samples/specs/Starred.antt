-- The samples that document 01 marks with a star, as one table.
use Prim.Native.String.{String, ◌++◌}
use Rattle.std.specs.Prelude.{List, [], ◌∷◌}
use Rattle.judgement.specs.declared.answer.Verdict.TheVariants.{Yes, No, LimitMet}
use Rattle.samples.specs.Sample.{Sample, compiles, refuses, prints, has, image, row, judged}

abbrev H : String → String
H body = "alphabet=['a'];decr_on_zero=false;twoc(string)" ++ body

-- the same with true in place of false
abbrev H_true : String → String
H_true body = "alphabet=['a'];decr_on_zero=true;twoc(string)" ++ body

abbrev pub starred : List Sample
starred =
    compiles
    (H "{}")
    (prints "ok 1 0 39\n"
    ∷ image
    (0x01 ∷ 0x00 ∷ 0x01 ∷ 0x01
    ∷ 0x02 ∷ 0x00 ∷ 0x01 ∷ 0x61
    ∷ 0x03 ∷ 0x00 ∷ 0x01 ∷ 0x00
    ∷ 0x04 ∷ 0x00 ∷ 0x02 ∷ 0x00 ∷ 0x01
    ∷ 0x05 ∷ 0x00 ∷ 0x10
    ∷ 0 ∷ 0 ∷ 0 ∷ 0 ∷ 0 ∷ 0 ∷ 0 ∷ 0 ∷ 0 ∷ 0 ∷ 0 ∷ 0 ∷ 0 ∷ 0 ∷ 0 ∷ 0
    ∷ 0x06 ∷ 0x00 ∷ 0x00 ∷ [])
    ∷ [])
    ∷ compiles (H "{accept;}") (judged "" 0 Yes 1 ∷ [])
    ∷ compiles
    (H "{move(1);}")
    (judged "" 0 No 2 ∷ row (0x00 ∷ 0x00 ∷ 0x12 ∷ 0x02 ∷ 0x41 ∷ 0x1F ∷ 0x00 ∷ 0x01 ∷ []) ∷ [])
    ∷ compiles (H "{c--;accept;}") (judged "" 0 No 1 ∷ [])
    ∷ compiles (H_true "{c--;accept;}") (judged "" 0 Yes 2 ∷ [])
    ∷ compiles (H "{while(c==0){}}") (prints "ok 3 3 63\n" ∷ judged "" 0 No 2 ∷ [])
    ∷ compiles (H "{while choose{c++;}}") (judged "" 3 LimitMet 15 ∷ [])
    ∷ compiles (H "{while choose{c++;}accept;}") (judged "" 3 Yes 15 ∷ judged "" 0 Yes 3 ∷ [])
    ∷ compiles
    (H "{branch{c++;}also{} if(c==0){accept;}}")
    (has 9 9 ∷ judged "" 0 Yes 5 ∷ judged "" 1 Yes 9 ∷ [])
    ∷ compiles (H "{if(read!='a'&&c==0){accept;}}") (prints "ok 6 7 95\n" ∷ judged "" 0 Yes 3 ∷ [])
    ∷ refuses (H "{move(64);}") 7 52 "no 7 52\n"
    ∷ compiles (H "{move(63);}") []
    ∷ []
