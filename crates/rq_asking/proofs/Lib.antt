mod Carrying
mod OneAsk
