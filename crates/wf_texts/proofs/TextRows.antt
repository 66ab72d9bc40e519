-- Which texts are bad where a template is asked, at worked texts.
use Rattle.std.proofs.Common.{◌≡◌, [], ◌∷◌, map, true, false, refl}
use Rattle.std.specs.Char.{encode_utf8}
use Rattle.std.specs.Prelude.{codes}
use Rattle.std.specs.Str.{chars}
use Rattle.wf_expr.specs.Kinds.{kind}
use Rattle.wf_expr.specs.Text.{template_in}
use Rattle.wf_expr.specs.WordTests.{word_of, word_front}
use Rattle.wf_texts.specs.Sound.{is_bad}

-- a text without expressions stands for itself
sound-plain : map is_bad (
    [] ∷
    codes "x" ∷
    codes "@@x" ∷
    codes "a b" ∷
    codes "nope()" ∷
    codes "@@concat()" ∷
    [])
    ≡ false ∷ false ∷ false ∷ false ∷ false ∷ false ∷ []
unfolding is_bad template_in chars kind encode_utf8 word_of word_front
sound-plain = refl

-- of a function that there is, with as many arguments as it takes; its name without letter case
sound-calls : map is_bad (
    codes "@concat('a')" ∷
    codes "@CONCAT('a','b','c')" ∷
    codes "@createArray()" ∷
    codes "@add(1,2)" ∷
    codes "@substring('a',0)" ∷
    codes "@substring('a',0,1)" ∷
    codes "@item()" ∷
    codes "@guid()" ∷
    codes "@guid('N')" ∷
    codes "@utcNow()" ∷
    codes "@rand(1,2)" ∷
    codes "@if(true,1,2)" ∷
    codes "@union(createArray(),createArray(1))" ∷
    [])
    ≡ false ∷ false ∷ false ∷ false ∷ false ∷ false ∷ false ∷ false ∷ false ∷ false ∷ false ∷ false ∷ false ∷ []
unfolding is_bad template_in chars kind encode_utf8 word_of word_front
sound-calls = refl

sound-accesses : map is_bad (
    codes "@trigger()" ∷
    codes "@triggerBody()?['a'].b[0]" ∷
    codes "@workflow().run.name" ∷
    codes "@null" ∷
    codes "@'a'" ∷
    codes "@-1" ∷
    codes "a@{item()}b@{add(1,2)}" ∷
    codes "@{'x'}" ∷
    [])
    ≡ false ∷ false ∷ false ∷ false ∷ false ∷ false ∷ false ∷ false ∷ []
unfolding is_bad template_in chars kind encode_utf8 word_of word_front
sound-accesses = refl

-- what spells no template
bad-spelling : map is_bad (
    codes "@" ∷
    codes "@{" ∷
    codes "@{1" ∷
    codes "@1.5" ∷
    codes "@concat('a'" ∷
    codes "@item()." ∷
    codes "@item()[" ∷
    codes "@ item() x" ∷
    codes "@'a" ∷
    codes "@x" ∷
    codes "@{item()" ∷
    codes "@{}" ∷
    [])
    ≡ true ∷ true ∷ true ∷ true ∷ true ∷ true ∷ true ∷ true ∷ true ∷ true ∷ true ∷ true ∷ []
unfolding is_bad template_in chars kind encode_utf8 word_of word_front
bad-spelling = refl

-- of no function; what a fault names in the place of a function is none
bad-functions : map is_bad (
    codes "@nope()" ∷
    codes "@nope(1)" ∷
    codes "@{nope()}" ∷
    codes "@condition(1)" ∷
    codes "@index(1)" ∷
    codes "@from(1)" ∷
    codes "@foreach(1)" ∷
    codes "@switch(1)" ∷
    codes "@variable('v')" ∷
    codes "@xpath('a','b')" ∷
    [])
    ≡ true ∷ true ∷ true ∷ true ∷ true ∷ true ∷ true ∷ true ∷ true ∷ true ∷ []
unfolding is_bad template_in chars kind encode_utf8 word_of word_front
bad-functions = refl

-- one argument too few, and one too many
bad-counts : map is_bad (
    codes "@concat()" ∷
    codes "@{concat()}" ∷
    codes "@add(1)" ∷
    codes "@add(1,2,3)" ∷
    codes "@item(1)" ∷
    codes "@substring('a')" ∷
    codes "@substring('a',0,1,2)" ∷
    codes "@not()" ∷
    codes "@not(true,true)" ∷
    codes "@if(true,1)" ∷
    codes "@if(true,1,2,3)" ∷
    codes "@union(createArray())" ∷
    codes "@guid('N','D')" ∷
    codes "@trigger(1)" ∷
    codes "@rand(1)" ∷
    [])
    ≡ true ∷ true ∷ true ∷ true ∷ true ∷ true ∷ true ∷ true ∷ true ∷ true ∷ true ∷ true ∷ true ∷ true ∷ true ∷ []
unfolding is_bad template_in chars kind encode_utf8 word_of word_front
bad-counts = refl

-- a name as it stands, which may be empty
sound-names : map is_bad (
    codes "@actions('A')" ∷
    codes "@outputs('A')" ∷
    codes "@body('A')" ∷
    codes "@result('A')" ∷
    codes "@items('A')" ∷
    codes "@iterationIndexes('A')" ∷
    codes "@parameters('A')" ∷
    codes "@variables('A')" ∷
    codes "@outputs('')" ∷
    codes "@OUTPUTS('A')" ∷
    [])
    ≡ false ∷ false ∷ false ∷ false ∷ false ∷ false ∷ false ∷ false ∷ false ∷ false ∷ []
unfolding is_bad template_in chars kind encode_utf8 word_of word_front
sound-names = refl

-- a name that would have to be computed, or is no text
bad-names : map is_bad (
    codes "@actions(concat('A'))" ∷
    codes "@outputs(concat('A'))" ∷
    codes "@body(concat('A'))" ∷
    codes "@result(concat('A'))" ∷
    codes "@items(concat('A'))" ∷
    codes "@iterationIndexes(concat('A'))" ∷
    codes "@parameters(concat('A'))" ∷
    codes "@variables(concat('A'))" ∷
    codes "@outputs(1)" ∷
    codes "@body(null)" ∷
    codes "@variables(true)" ∷
    codes "@parameters(parameters('p'))" ∷
    codes "@items('L').x(1)" ∷
    codes "@outputs('A'[0])" ∷
    [])
    ≡ true ∷ true ∷ true ∷ true ∷ true ∷ true ∷ true ∷ true ∷ true ∷ true ∷ true ∷ true ∷ true ∷ true ∷ []
unfolding is_bad template_in chars kind encode_utf8 word_of word_front
bad-names = refl

-- no name, and two
bad-name-counts : map is_bad (
    codes "@actions()" ∷
    codes "@outputs()" ∷
    codes "@body()" ∷
    codes "@result()" ∷
    codes "@items()" ∷
    codes "@iterationIndexes()" ∷
    codes "@parameters()" ∷
    codes "@variables()" ∷
    codes "@actions('A','B')" ∷
    codes "@outputs('A','B')" ∷
    codes "@body('A','B')" ∷
    codes "@result('A','B')" ∷
    codes "@items('A','B')" ∷
    codes "@iterationIndexes('A','B')" ∷
    codes "@parameters('A','B')" ∷
    codes "@variables('A','B')" ∷
    [])
    ≡ true ∷ true ∷ true ∷ true ∷ true ∷ true ∷ true ∷ true ∷ true ∷ true ∷ true ∷ true ∷ true ∷ true ∷ true ∷ true ∷ []
unfolding is_bad template_in chars kind encode_utf8 word_of word_front
bad-name-counts = refl

-- calls at every depth, also in an arm that is never taken and in the arguments of a call that is wrong itself
bad-inside : map is_bad (
    codes "@if(true,1,nope())" ∷
    codes "@concat('a',add(1))" ∷
    codes "@outputs('A')[nope()]" ∷
    codes "@outputs('A')?[add(1)].b" ∷
    codes "@nope().a" ∷
    codes "@add(1,mul(2,div(3)))" ∷
    codes "@{1} and @{nope()}" ∷
    codes "@createArray(1,createArray(outputs(item())))" ∷
    codes "@and(true,variables(concat('v')))" ∷
    [])
    ≡ true ∷ true ∷ true ∷ true ∷ true ∷ true ∷ true ∷ true ∷ true ∷ []
unfolding is_bad template_in chars kind encode_utf8 word_of word_front
bad-inside = refl
